-- The proof of `heads_in`: the first pass.
use Rattle.std.proofs.Common.{◌≡◌, ℕ, ◌∙◌, ◌++◌, List, [], None, ap, codes, subst}
use Rattle.std.proofs.lemmas.Result.{err_from_is_err_and}
use Rattle.arrayvec.specs.ArrayString.{ArrayString}
use Rattle.toml.specs.Data.{get_member}
use Rattle.toml.specs.View.{table_view}
use Rattle.execlist.specs.Order.{first}
use Rattle.taskscript.specs.declared.place.Array.TheVariants as array
use Rattle.script.specs.Names.{texts}
use Rattle.taskscript.specs.{Faults.IsFirst, File.softint_faults, File.server_faults, File.task_faults, File.named_faults, File.item_names, File.softints_in, File.servers_in, File.tasks_in, File.names_before_servers, File.names_before_tasks, Tree.optional, Tree.array_faults}
use Rattle.taskscript.proofs.Firsts.{first_some, skip, both}
use Rattle.taskscript.proofs.owners.heads_in.Goals as goal

pub returns-in_err-servers : goal.returns-in_err-servers
returns-in_err-servers c =
    let p = err_from_is_err_and c.from_residual-in_err-servers.result c.from_residual-in_err-servers.ensures.1 in
    let f = c.in_err-servers.field-0.0 in
    let t = table_view c.args.table.now in
    let softints : first (optional (array_faults array.Softint (named_faults softint_faults array.Softint 0 [])) (get_member (codes "softint") t)) ≡ None =
    subst (λ (ns : List ArrayString). first (optional (array_faults array.Softint (named_faults softint_faults array.Softint 0 (texts ns))) (get_member (codes "softint") t)) ≡ None) c.new-names.ensures.items c.in_ok-softints.ensures.judged.0 in
    let names : texts c.heads_at.new.names.items ≡ names_before_servers t = c.in_ok-softints.ensures.names ∙ ap (λ (ns : List ArrayString). texts ns ++ item_names (softints_in t)) c.new-names.ensures.items in
    let fault : IsFirst f (optional (array_faults array.Server (named_faults server_faults array.Server 0 (names_before_servers t))) (get_member (codes "server") t)) =
    subst (λ (ns : List (List ℕ)). IsFirst f (optional (array_faults array.Server (named_faults server_faults array.Server 0 ns)) (get_member (codes "server") t))) names c.in_err-servers.ensures.judged in
    rw (p.1, p.2) (skip (optional (array_faults array.Softint (named_faults softint_faults array.Softint 0 [])) (get_member (codes "softint") t)) _ f softints
    (λ ne. first_some (optional (array_faults array.Server (named_faults server_faults array.Server 0 (names_before_servers t))) (get_member (codes "server") t)) (optional (array_faults array.Task (named_faults task_faults array.Task 0 (names_before_tasks t))) (get_member (codes "task") t)) f (fault ne)))

pub returns-in_err-tasks : goal.returns-in_err-tasks
returns-in_err-tasks c =
    let p = err_from_is_err_and c.from_residual-in_err-tasks.result c.from_residual-in_err-tasks.ensures.1 in
    let f = c.in_err-tasks.field-0.0 in
    let t = table_view c.args.table.now in
    let softints : first (optional (array_faults array.Softint (named_faults softint_faults array.Softint 0 [])) (get_member (codes "softint") t)) ≡ None =
    subst (λ (ns : List ArrayString). first (optional (array_faults array.Softint (named_faults softint_faults array.Softint 0 (texts ns))) (get_member (codes "softint") t)) ≡ None) c.new-names.ensures.items c.in_ok-softints.ensures.judged.0 in
    let names : texts c.heads_at.new.names.items ≡ names_before_servers t = c.in_ok-softints.ensures.names ∙ ap (λ (ns : List ArrayString). texts ns ++ item_names (softints_in t)) c.new-names.ensures.items in
    let servers : first (optional (array_faults array.Server (named_faults server_faults array.Server 0 (names_before_servers t))) (get_member (codes "server") t)) ≡ None =
    subst (λ (ns : List (List ℕ)). first (optional (array_faults array.Server (named_faults server_faults array.Server 0 ns)) (get_member (codes "server") t)) ≡ None) names c.in_ok-servers.ensures.judged.0 in
    let more_names : texts c.heads_at-2.new.names.items ≡ names_before_tasks t = c.in_ok-servers.ensures.names ∙ ap (λ (ns : List (List ℕ)). ns ++ item_names (servers_in t)) names in
    let fault : IsFirst f (optional (array_faults array.Task (named_faults task_faults array.Task 0 (names_before_tasks t))) (get_member (codes "task") t)) =
    subst (λ (ns : List (List ℕ)). IsFirst f (optional (array_faults array.Task (named_faults task_faults array.Task 0 ns)) (get_member (codes "task") t))) more_names c.in_err-tasks.ensures.judged in
    rw (p.1, p.2) (skip (optional (array_faults array.Softint (named_faults softint_faults array.Softint 0 [])) (get_member (codes "softint") t)) _ f softints
    (skip (optional (array_faults array.Server (named_faults server_faults array.Server 0 (names_before_servers t))) (get_member (codes "server") t)) (optional (array_faults array.Task (named_faults task_faults array.Task 0 (names_before_tasks t))) (get_member (codes "task") t)) f servers fault))

pub returns : goal.returns
returns c =
    let t = table_view c.args.table.now in
    let softints : first (optional (array_faults array.Softint (named_faults softint_faults array.Softint 0 [])) (get_member (codes "softint") t)) ≡ None =
    subst (λ (ns : List ArrayString). first (optional (array_faults array.Softint (named_faults softint_faults array.Softint 0 (texts ns))) (get_member (codes "softint") t)) ≡ None) c.new-names.ensures.items c.in_ok-softints.ensures.judged.0 in
    let names : texts c.heads_at.new.names.items ≡ names_before_servers t = c.in_ok-softints.ensures.names ∙ ap (λ (ns : List ArrayString). texts ns ++ item_names (softints_in t)) c.new-names.ensures.items in
    let servers : first (optional (array_faults array.Server (named_faults server_faults array.Server 0 (names_before_servers t))) (get_member (codes "server") t)) ≡ None =
    subst (λ (ns : List (List ℕ)). first (optional (array_faults array.Server (named_faults server_faults array.Server 0 ns)) (get_member (codes "server") t)) ≡ None) names c.in_ok-servers.ensures.judged.0 in
    let more_names : texts c.heads_at-2.new.names.items ≡ names_before_tasks t = c.in_ok-servers.ensures.names ∙ ap (λ (ns : List (List ℕ)). ns ++ item_names (servers_in t)) names in
    let tasks : first (optional (array_faults array.Task (named_faults task_faults array.Task 0 (names_before_tasks t))) (get_member (codes "task") t)) ≡ None =
    subst (λ (ns : List (List ℕ)). first (optional (array_faults array.Task (named_faults task_faults array.Task 0 ns)) (get_member (codes "task") t)) ≡ None) more_names c.in_ok-tasks.ensures.judged.0 in (
      both (optional (array_faults array.Softint (named_faults softint_faults array.Softint 0 [])) (get_member (codes "softint") t)) _ softints
          (both (optional (array_faults array.Server (named_faults server_faults array.Server 0 (names_before_servers t))) (get_member (codes "server") t)) (optional (array_faults array.Task (named_faults task_faults array.Task 0 (names_before_tasks t))) (get_member (codes "task") t)) servers tasks),
      record {
        softints = c.in_ok-softints.ensures.judged.1;
        servers = c.in_ok-servers.ensures.judged.1;
        tasks = c.in_ok-tasks.ensures.judged.1;
        names = c.in_ok-tasks.ensures.names ∙ ap (λ (ns : List (List ℕ)). ns ++ item_names (tasks_in t)) more_names;
      },
    )
