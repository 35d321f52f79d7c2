-- What calls on the tasks speak of: the state, the priority and the name of each task, by its number, and the ready
-- tasks. The program (`TaskQ`) keeps the ready tasks in the order in which they are to run, the abstract machine in
-- order of arrival. RKM Libraries, Exec Tasks.
use Rattle.std.specs.Prelude.{◌≡◌, ℕ, ℤ, length, List, [], Option, Some, None, Bool, true, false, ◌&&◌, ◌==◌, slice_index_or, map}
use Rattle.std.specs.Cmp.Lexicographic.{pointwise}
use Rattle.execlist.specs.Lists.{KeyData}
use Rattle.taskq.specs.declared.TaskState.TheVariants.{Absent, Ready, Running, Waiting, Removed}
use Rattle.taskq.specs.declared.TaskState.{TaskState}

-- the ready tasks, and what is known of each task (RKM Libraries, Exec Tasks)
pub record Tasks : Type 0 where
  pub ready : List ℕ
  pub states : List TaskState
  pub pris : List ℤ
  pub names : List (List ℕ)

-- the state of task t; Absent if no task has that number
abbrev pub state_at : List TaskState → ℕ → TaskState
state_at states t = slice_index_or states t Absent

-- the name of task t
abbrev pub name_at : List (List ℕ) → ℕ → List ℕ
name_at names t = slice_index_or names t []

-- a task of that state is ready
abbrev pub is_ready : TaskState → Bool
is_ready Absent = false
is_ready Ready = true
is_ready Running = false
is_ready (Waiting why) = false
is_ready Removed = false

-- a task of that state was added and not removed (RKM Libraries, Exec Tasks: task states)
abbrev pub is_live : TaskState → Bool
is_live Absent = false
is_live Ready = true
is_live Running = true
is_live (Waiting why) = true
is_live Removed = false

-- task t is live and has that name, byte for byte (autodoc FindTask)
abbrev pub is_live_named : Tasks → List ℕ → ℕ → Bool
is_live_named s name t = is_live (state_at s.states t) && pointwise ◌==◌ (name_at s.names t) name

-- the header that holds a task of that state: the only one, or none
abbrev pub home_for : TaskState → Option ℕ
home_for Absent = None
home_for Ready = Some 0
home_for Running = None
home_for (Waiting why) = None
home_for Removed = None

-- the priorities of keys
abbrev pub pris_of : List KeyData → List ℤ
pris_of keys = map (λ k. k.pri) keys

-- a list space with these homes represents tasks of these states: it has one header, which holds the
-- ready ones, and each task has a name
pub record IsSoundQueue (headers : ℕ) (homes : List (Option ℕ)) (states : List TaskState) (named : ℕ) : Type 0 where
  pub one_header : headers ≡ 1
  pub ready_held : homes ≡ map home_for states
  pub all_named : named ≡ length states
