-- A body that was read line after line is the body as a whole.
use Rattle.std.proofs.Common.{◌≡◌, ℕ, suc, ◌+◌, ◌<◌, ◌≤◌, zero-add, arith, Bool, true, false, not, ◌&&◌, ◌||◌, cond, nat_le, bytes_eq, List, [], ◌∷◌, ◌++◌, length, map, drop, take, get_or, Option, Some, None, Result, Ok, Err, Vec, Global, append_assoc, length-append, refl, sym, ap, subst, ◌∙◌, is_some, unwrap_or, flat_map, append-nil}
use Rattle.std.specs.{List.list_all, List.list_any, List.cons_option, List.before_first, List.position_or_len, Option.option_map_or}
use Rattle.std.proofs.lemmas.{Bool.and_parts, Bool.Decides.nat_tests, List.map_push}
use Rattle.toml.specs.View.{view, items_view}
use Rattle.toml.specs.declared.value.Value.{Value}
use Rattle.toml.proofs.Views.{items_view-drop}
use Rattle.taskscript.specs.declared.fault.FileFault.TheVariants.{BadCommand, NotInInterrupt, BadLabel, TooMany}
use Rattle.taskscript.specs.Numbering.{Names, names_after, variable_in, keeps_variable_limits, argument_in, command_in, variables_of, labels_of_arguments, have_room}
use Rattle.taskscript.specs.Code.{line_in, lines_in, command_said, label_said, commands_of, labels_of, is_label_of, place_of, names_of, line_faults, lines_faults, jump_faults, jumps_said, jumps_faults, body_faults, code_of, shared_after}
use Rattle.script.specs.{declared.command.Command.Command, Commands.ArgumentData, Commands.CommandData, Commands.command_view}
use Rattle.taskscript.specs.{declared.fault.FileFault.FileFault, Faults.check, Faults.Judges, Interrupting.Setting, Interrupting.may_have, Interrupting.names_softints, Labels.Mark, Labels.place_in, Labels.place_at, Labels.are_marked, Labels.jump_faults_in, Labels.jumps_faults_in, Lines.NamedVariableData, Lines.NamedArgumentData, Lines.number, Lines.variable, Lines.label, Lines.quoted, Lines.NamedCommandData, Lines.LineData, Lines.label_line, Lines.command_line, declared.place.Owner.Owner, declared.refused.Refused.Refused, Listings.number_said, Listings.command_lines_from, Listings.command_lines, Meaning.line_meaning, Places.at, Places.line_at, Places.refused, Bodies.Reading, Bodies.nothing_read, Bodies.reading_with, Bodies.reading_after, Bodies.said_faults, Bodies.faults_after}
use Rattle.script.specs.Commands as numbered
use Rattle.execlist.specs.Order.{first}
use Rattle.taskscript.proofs.{Firsts.first_none, Firsts.first_some, Firsts.first_left, Firsts.first_right, Firsts.at_none, Firsts.at_some, Firsts.none_at, FirstSight.room_whole, Turns.names_after-append}

-- what a body sees from these lines on
abbrev pub variables_left : List (List ℕ) → List NamedVariableData
variables_left lines = flat_map variables_of (commands_of lines)

abbrev pub mark_names : List Mark → List (List ℕ)
mark_names marks = map (λ m. m.name) marks

abbrev mark : List ℕ → ℕ → Mark
mark n k = record { name = n; place = k }

-- ---- labels among marks

either : (b : Bool) (k : ℕ) (o : Option ℕ) (c : Bool) → is_some o ≡ c → is_some (cond b (Some k) o) ≡ (b || c)
either true k o c h = refl
either false k o c h = h

pub marked : (marks : List Mark) (n : List ℕ) → is_some (place_in marks n) ≡ list_any (bytes_eq n) (mark_names marks)
marked [] n = refl
marked (m ∷ marks) n = either (bytes_eq n m.name) m.place (place_in marks n) (list_any (bytes_eq n) (mark_names marks)) (marked marks n)

-- ---- faults

faults_step : (w : Owner) (j n : ℕ) (s : Setting) (r : Reading) (whole : Names) (others : List (List ℕ)) (o : Option LineData)
    → ((q : Reading) → names_after q.names (variables_left others) ≡ whole → faults_after w j (n + 1) s q others ≡ lines_faults w j (n + 1) s whole (mark_names q.marks) others)
    → names_after r.names (flat_map variables_of (cons_option (command_said o) (commands_of others))) ≡ whole
    → at (line_at w j n) (said_faults s r o) ++ faults_after w j (n + 1) s (reading_with r o) others
    ≡ at (line_at w j n) (line_faults s whole (mark_names r.marks) o) ++ lines_faults w j (n + 1) s whole (mark_names r.marks ++ cons_option (label_said o) []) others
faults_step w j n s r whole others None rest h =
    ap (λ (fs : List Refused). refused (line_at w j n) BadCommand ∷ fs) (rest r h ∙ ap (λ (ns : List (List ℕ)). lines_faults w j (n + 1) s whole ns others) (sym (append-nil (mark_names r.marks))))
faults_step w j n s r whole others (Some (label_line name)) rest h =
    let here = check (not s.of_interrupt) NotInInterrupt in
    ap (λ (b : Bool). at (line_at w j n) (here ++ check (not b) BadLabel) ++ faults_after w j (n + 1) s (reading_with r (Some (label_line name))) others) (marked r.marks name)
    ∙ ap (λ (fs : List Refused). at (line_at w j n) (here ++ check (not (list_any (bytes_eq name) (mark_names r.marks))) BadLabel) ++ fs)
    (rest (reading_with r (Some (label_line name))) h ∙ ap (λ (ns : List (List ℕ)). lines_faults w j (n + 1) s whole ns others) (map_push (λ (m : Mark). m.name) r.marks (mark name (length r.commands))))
faults_step w j n s r whole others (Some (command_line c)) rest h =
    let room : have_room r.names (variables_of c) ≡ list_all (λ v. keeps_variable_limits (variable_in whole v)) (variables_of c) =
    room_whole r.names (variables_of c) (variables_left others) ∙ ap (λ (names : Names). list_all (λ v. keeps_variable_limits (variable_in names v)) (variables_of c)) h in
    let q = reading_with r (Some (command_line c)) in
    ap (λ (b : Bool). at (line_at w j n) (check (names_softints s c) BadCommand ++ (check (may_have s c) NotInInterrupt ++ check b TooMany)) ++ faults_after w j (n + 1) s q others) room
    ∙ ap (λ (fs : List Refused). at (line_at w j n) (line_faults s whole (mark_names r.marks) (Some (command_line c))) ++ fs)
    (rest q (sym (names_after-append r.names (variables_of c) (variables_left others)) ∙ h) ∙ ap (λ (ns : List (List ℕ)). lines_faults w j (n + 1) s whole ns others) (sym (append-nil (mark_names r.marks))))

pub faults_whole : (w : Owner) (j n : ℕ) (s : Setting) (r : Reading) (whole : Names) (lines : List (List ℕ)) → names_after r.names (variables_left lines) ≡ whole
    → faults_after w j n s r lines ≡ lines_faults w j n s whole (mark_names r.marks) lines
faults_whole w j n s r whole [] h = refl
faults_whole w j n s r whole (line ∷ others) h = faults_step w j n s r whole others (line_meaning line) (λ q k. faults_whole w j (n + 1) s q whole others k) h

-- ---- what was read

-- the labels of some lines, after that many commands
abbrev pub marks_said : ℕ → Option LineData → List Mark → List Mark
marks_said k None rest = rest
marks_said k (Some (label_line n)) rest = mark n k ∷ rest
marks_said k (Some (command_line c)) rest = rest

abbrev pub place_after : ℕ → Option LineData → ℕ
place_after k None = k
place_after k (Some (label_line n)) = k
place_after k (Some (command_line c)) = k + 1

abbrev pub marks_from : ℕ → List (List ℕ) → List Mark
marks_from k [] = []
marks_from k (line ∷ others) = marks_said k (line_meaning line) (marks_from (place_after k (line_meaning line)) others)

abbrev reading : List NamedCommandData → Names → List Mark → Reading
reading cs names marks = record { commands = cs; names = names; marks = marks }

read_step : (r : Reading) (others : List (List ℕ)) (o : Option LineData)
    → ((q : Reading) → reading_after q others ≡ reading (q.commands ++ commands_of others) (names_after q.names (variables_left others)) (q.marks ++ marks_from (length q.commands) others))
    → reading_after (reading_with r o) others
    ≡ reading (r.commands ++ cons_option (command_said o) (commands_of others)) (names_after r.names (flat_map variables_of (cons_option (command_said o) (commands_of others))))
    (r.marks ++ marks_said (length r.commands) o (marks_from (place_after (length r.commands) o) others))
read_step r others None rest = rest r
read_step r others (Some (label_line n)) rest =
    rest (reading_with r (Some (label_line n)))
    ∙ ap (reading (r.commands ++ commands_of others) (names_after r.names (variables_left others))) (append_assoc r.marks (mark n (length r.commands) ∷ []) (marks_from (length r.commands) others))
read_step r others (Some (command_line c)) rest =
    let cs = variables_left others in
    rest (reading_with r (Some (command_line c)))
    ∙ ap (λ (ds : List NamedCommandData). reading ds (names_after (names_after r.names (variables_of c)) cs) (r.marks ++ marks_from (length (r.commands ++ c ∷ [])) others)) (append_assoc r.commands (c ∷ []) (commands_of others))
    ∙ ap (λ (ns : Names). reading (r.commands ++ (c ∷ commands_of others)) ns (r.marks ++ marks_from (length (r.commands ++ c ∷ [])) others)) (sym (names_after-append r.names (variables_of c) cs))
    ∙ ap (λ (k : ℕ). reading (r.commands ++ (c ∷ commands_of others)) (names_after r.names (variables_of c ++ cs)) (r.marks ++ marks_from k others)) (length-append r.commands (c ∷ []))

pub read_whole : (r : Reading) (lines : List (List ℕ)) → reading_after r lines ≡ reading (r.commands ++ commands_of lines) (names_after r.names (variables_left lines)) (r.marks ++ marks_from (length r.commands) lines)
read_whole r [] = ap (λ (cs : List NamedCommandData). reading cs r.names r.marks) (sym (append-nil r.commands)) ∙ ap (λ (ms : List Mark). reading (r.commands ++ []) r.names ms) (sym (append-nil r.marks))
read_whole r (line ∷ others) = read_step r others (line_meaning line) (λ q. read_whole q others)

-- ---- places

names_step : (k : ℕ) (o : Option LineData) (rest : List Mark) (names : List (List ℕ)) → mark_names rest ≡ names → mark_names (marks_said k o rest) ≡ cons_option (label_said o) names
names_step k None rest names h = h
names_step k (Some (label_line n)) rest names h = ap (λ (ns : List (List ℕ)). n ∷ ns) h
names_step k (Some (command_line c)) rest names h = h

pub marks_from-names : (k : ℕ) (lines : List (List ℕ)) → mark_names (marks_from k lines) ≡ labels_of lines
marks_from-names k [] = refl
marks_from-names k (line ∷ others) = names_step k (line_meaning line) (marks_from (place_after k (line_meaning line)) others) (labels_of others) (marks_from-names (place_after k (line_meaning line)) others)

one_more : (n : ℕ) (x : List ℕ) (xs : List (List ℕ)) → take (1 + n) (x ∷ xs) ≡ x ∷ take n xs
one_more n x xs = let e : 1 + n ≡ suc n = omega arith in ap (λ (k : ℕ). take k (x ∷ xs)) e

before_step : (b : Bool) (n : ℕ) (x : List ℕ) (xs : List (List ℕ)) → take (cond (not b) (1 + n) 0) (x ∷ xs) ≡ cond b [] (x ∷ take n xs)
before_step true n x xs = refl
before_step false n x xs = one_more n x xs

before_first-cons : (p : List ℕ → Bool) (x : List ℕ) (xs : List (List ℕ)) → before_first p (x ∷ xs) ≡ cond (p x) [] (x ∷ before_first p xs)
before_first-cons p x xs = before_step (p x) (position_or_len p xs) x xs

place_of-cons : (n line : List ℕ) (others : List (List ℕ)) → place_of (line ∷ others) n ≡ cond (is_label_of n line) 0 (length (cons_option (command_said (line_meaning line)) (commands_of (before_first (is_label_of n) others))))
place_of-cons n line others = ap (λ (ls : List (List ℕ)). length (commands_of ls)) (before_first-cons (is_label_of n) line others) ∙ split (is_label_of n line)
  where
    split : (b : Bool) → length (commands_of (cond b [] (line ∷ before_first (is_label_of n) others))) ≡ cond b 0 (length (cons_option (command_said (line_meaning line)) (commands_of (before_first (is_label_of n) others))))
    split true = refl
    split false = refl

-- the place among the marks is the number of commands before the label
place_step : (n : List ℕ) (k : ℕ) (o : Option LineData) (others : List (List ℕ))
    → ((j : ℕ) → list_any (bytes_eq n) (labels_of others) ≡ true → place_at (marks_from j others) n ≡ j + place_of others n)
    → list_any (bytes_eq n) (cons_option (label_said o) (labels_of others)) ≡ true
    → place_at (marks_said k o (marks_from (place_after k o) others)) n ≡ k + cond (option_map_or (bytes_eq n) (label_said o) false) 0 (length (cons_option (command_said o) (commands_of (before_first (is_label_of n) others))))
place_step n k None others rest h = rest k h
place_step n k (Some (label_line m)) others rest h = split (bytes_eq n m) h
  where
    split : (b : Bool) → (b || list_any (bytes_eq n) (labels_of others)) ≡ true → unwrap_or (cond b (Some k) (place_in (marks_from k others) n)) 0 ≡ k + cond b 0 (length (commands_of (before_first (is_label_of n) others)))
    split true g = omega arith
    split false g = rest k g
place_step n k (Some (command_line c)) others rest h = rest (k + 1) h ∙ plus (place_of others n)
  where
    plus : (j : ℕ) → k + 1 + j ≡ k + suc j
    plus j = omega arith

pub place_at-marks : (n : List ℕ) (k : ℕ) (lines : List (List ℕ)) → list_any (bytes_eq n) (labels_of lines) ≡ true → place_at (marks_from k lines) n ≡ k + place_of lines n
place_at-marks n k [] h = absurd cc
place_at-marks n k (line ∷ others) h = place_step n k (line_meaning line) others (λ j g. place_at-marks n j others g) h ∙ ap (λ (j : ℕ). k + j) (sym (place_of-cons n line others))

-- ---- commands with their places

arguments_placed : (names : Names) (p q : List ℕ → ℕ) (known : List ℕ → Bool) → ((n : List ℕ) → known n ≡ true → p n ≡ q n) → (found : List NamedArgumentData)
    → list_all known (labels_of_arguments found) ≡ true → map (argument_in names p) found ≡ map (argument_in names q) found
arguments_placed names p q known same [] h = refl
arguments_placed names p q known same (number n ∷ found) h = ap (λ (others : List ArgumentData). numbered.number n ∷ others) (arguments_placed names p q known same found h)
arguments_placed names p q known same (variable v ∷ found) h = ap (λ (others : List ArgumentData). numbered.variable (variable_in names v) ∷ others) (arguments_placed names p q known same found h)
arguments_placed names p q known same (quoted n ∷ found) h = ap (λ (others : List ArgumentData). numbered.quoted n ∷ others) (arguments_placed names p q known same found h)
arguments_placed names p q known same (label n ∷ found) h =
    let parts = and_parts (known n) (list_all known (labels_of_arguments found)) h in
    ap (λ (k : ℕ). numbered.place k ∷ map (argument_in names p) found) (same n parts.0)
    ∙ ap (λ (others : List ArgumentData). numbered.place (q n) ∷ others) (arguments_placed names p q known same found parts.1)

no_fault : (b : Bool) (f : FileFault) → first (check b f) ≡ None → b ≡ true
no_fault true f h = refl
no_fault false f h = absurd cc

-- a list of numbers, one for each command
pub commands_placed : (w : Owner) (j : ℕ) (names : Names) (p q : List ℕ → ℕ) (marks : List Mark) → ((n : List ℕ) → is_some (place_in marks n) ≡ true → p n ≡ q n) → (numbers : List ℕ) (cs : List NamedCommandData)
    → length numbers ≡ length cs → first (jumps_faults_in w j marks numbers cs) ≡ None → map (command_in names p) cs ≡ map (command_in names q) cs
commands_placed w j names p q marks same numbers [] e h = refl
commands_placed w j names p q marks same [] (c ∷ cs) e h = absurd (omega (arith, e))
commands_placed w j names p q marks same (n ∷ numbers) (c ∷ cs) e h =
    let own = at (line_at w j n) (jump_faults_in marks c) in
    let rest = jumps_faults_in w j marks numbers cs in
    let here = no_fault (are_marked marks (labels_of_arguments c.arguments)) BadLabel (none_at (line_at w j n) (jump_faults_in marks c) (first_left own rest h)) in
    let placed = arguments_placed names p q (λ name. is_some (place_in marks name)) same c.arguments here in
    ap (λ (found : List ArgumentData). record (command_in names p c) { arguments = found } ∷ map (command_in names p) cs) placed
    ∙ ap (λ (ds : List CommandData). command_in names q c ∷ ds) (commands_placed w j names p q marks same numbers cs (omega (arith, e)) (first_right own rest h))

all_same : (f g : List ℕ → Bool) → ((n : List ℕ) → f n ≡ g n) → (ns : List (List ℕ)) → list_all f ns ≡ list_all g ns
all_same f g same [] = refl
all_same f g same (n ∷ ns) = ap (λ (b : Bool). b && list_all f ns) (same n) ∙ ap (λ (b : Bool). g n && b) (all_same f g same ns)

jumps_step : (w : Owner) (j n : ℕ) (marks : List Mark) (labels : List (List ℕ)) → mark_names marks ≡ labels → (numbers : List ℕ) (cs : List NamedCommandData) (o : Option LineData) (rest : List Refused)
    → jumps_faults_in w j marks numbers cs ≡ rest
    → jumps_faults_in w j marks (cons_option (number_said n o) numbers) (cons_option (command_said o) cs) ≡ at (line_at w j n) (jumps_said labels (command_said o)) ++ rest
jumps_step w j n marks labels named numbers cs None rest h = h
jumps_step w j n marks labels named numbers cs (Some (label_line name)) rest h = h
jumps_step w j n marks labels named numbers cs (Some (command_line c)) rest h =
    let same = all_same (λ name. is_some (place_in marks name)) (λ name. list_any (bytes_eq name) labels) (λ name. marked marks name ∙ ap (λ (ns : List (List ℕ)). list_any (bytes_eq name) ns) named) (labels_of_arguments c.arguments) in
    ap (λ (b : Bool). at (line_at w j n) (check b BadLabel) ++ jumps_faults_in w j marks numbers cs) same ∙ ap (λ (fs : List Refused). at (line_at w j n) (jump_faults labels c) ++ fs) h

-- the jumps are judged by the labels, each in its line
pub jumps_judged : (w : Owner) (j n : ℕ) (marks : List Mark) (labels : List (List ℕ)) → mark_names marks ≡ labels → (lines : List (List ℕ))
    → jumps_faults_in w j marks (command_lines_from n lines) (commands_of lines) ≡ jumps_faults w j n labels lines
jumps_judged w j n marks labels h [] = refl
jumps_judged w j n marks labels h (line ∷ others) =
    jumps_step w j n marks labels h (command_lines_from (n + 1) others) (commands_of others) (line_meaning line) (jumps_faults w j (n + 1) labels others) (jumps_judged w j (n + 1) marks labels h others)

one_number : (n : ℕ) (o : Option LineData) (numbers : List ℕ) (cs : List NamedCommandData) → length numbers ≡ length cs → length (cons_option (number_said n o) numbers) ≡ length (cons_option (command_said o) cs)
one_number n None numbers cs h = h
one_number n (Some (label_line name)) numbers cs h = h
one_number n (Some (command_line c)) numbers cs h = ap suc h

-- each command has its line
pub lines_of_commands : (n : ℕ) (lines : List (List ℕ)) → length (command_lines_from n lines) ≡ length (commands_of lines)
lines_of_commands n [] = refl
lines_of_commands n (line ∷ others) = one_number n (line_meaning line) (command_lines_from (n + 1) others) (commands_of others) (lines_of_commands (n + 1) others)

-- ---- the whole

pub lines_counted : (items : List Value) → length (lines_in (items_view items)) ≡ length items
lines_counted [] = refl
lines_counted (v ∷ items) = ap suc (lines_counted items)

short_enough : (w : Owner) (j n : ℕ) → n ≤ 1024 → first (at (line_at w j 1024) (check (nat_le n 1024) TooMany)) ≡ None
short_enough w j n h = let e : nat_le n 1024 ≡ true = grind (arith, nat_tests) in ap (λ (b : Bool). first (at (line_at w j 1024) (check b TooMany))) e

pub too_long : (w : Owner) (j : ℕ) (s : Setting) (shared lines : List (List ℕ)) → 1024 < length lines → first (body_faults w j s shared lines) ≡ Some (refused (line_at w j 1024) TooMany)
unfolding body_faults
too_long w j s shared lines h =
    let e : nat_le (length lines) 1024 ≡ false = grind (arith, nat_tests) in
    first_some (at (line_at w j 1024) (check (nat_le (length lines) 1024) TooMany)) _ (refused (line_at w j 1024) TooMany) (ap (λ (b : Bool). first (at (line_at w j 1024) (check b TooMany))) e)

pub lines_judged : (w : Owner) (j : ℕ) (s : Setting) (shared lines : List (List ℕ)) → faults_after w j 0 s (nothing_read shared) lines ≡ lines_faults w j 0 s (names_of shared lines) [] lines
lines_judged w j s shared lines = faults_whole w j 0 s (nothing_read shared) (names_of shared lines) lines refl

pub line_decides : (w : Owner) (j : ℕ) (s : Setting) (shared lines : List (List ℕ)) (f : Refused) → length lines ≤ 1024 → first (faults_after w j 0 s (nothing_read shared) lines) ≡ Some f → first (body_faults w j s shared lines) ≡ Some f
unfolding body_faults
line_decides w j s shared lines f few h =
    first_none (at (line_at w j 1024) (check (nat_le (length lines) 1024) TooMany)) _ (short_enough w j (length lines) few)
    ∙ first_some (lines_faults w j 0 s (names_of shared lines) [] lines) _ f (ap first (sym (lines_judged w j s shared lines)) ∙ h)

jumps_decide : (w : Owner) (j : ℕ) (s : Setting) (shared lines : List (List ℕ)) (marks : List Mark) → length lines ≤ 1024 → first (faults_after w j 0 s (nothing_read shared) lines) ≡ None → mark_names marks ≡ labels_of lines
    → first (body_faults w j s shared lines) ≡ first (jumps_faults_in w j marks (command_lines lines) (commands_of lines))
unfolding body_faults
jumps_decide w j s shared lines marks few h named =
    first_none (at (line_at w j 1024) (check (nat_le (length lines) 1024) TooMany)) _ (short_enough w j (length lines) few)
    ∙ first_none (lines_faults w j 0 s (names_of shared lines) [] lines) _ (ap first (sym (lines_judged w j s shared lines)) ∙ h)
    ∙ ap first (sym (jumps_judged w j 0 marks (labels_of lines) named lines))

place_same : (lines : List (List ℕ)) (n : List ℕ) → is_some (place_in (marks_from 0 lines) n) ≡ true → place_at (marks_from 0 lines) n ≡ place_of lines n
place_same lines n h =
    let there : list_any (bytes_eq n) (labels_of lines) ≡ true = ap (λ (ns : List (List ℕ)). list_any (bytes_eq n) ns) (sym (marks_from-names 0 lines)) ∙ sym (marked (marks_from 0 lines) n) ∙ h in
    place_at-marks n 0 lines there ∙ zero-add (place_of lines n)

abbrev Resolved : Owner → ℕ → List ℕ → Result (Vec Command Global) Refused → Reading → Type 0
Resolved w j numbers r q = Judges r (jumps_faults_in w j q.marks numbers q.commands) (λ code. map command_view code.items ≡ map (command_in q.names (place_at q.marks)) q.commands)

resolved_whole : (w : Owner) (j : ℕ) (s : Setting) (shared lines : List (List ℕ)) (r : Result (Vec Command Global) Refused) → length lines ≤ 1024 → first (faults_after w j 0 s (nothing_read shared) lines) ≡ None
    → Resolved w j (command_lines lines) r (reading (commands_of lines) (names_of shared lines) (marks_from 0 lines)) → Judges r (body_faults w j s shared lines) (λ code. map command_view code.items ≡ code_of shared lines)
unfolding code_of
resolved_whole w j s shared lines (Ok code) few h found = (
  jumps_decide w j s shared lines (marks_from 0 lines) few h (marks_from-names 0 lines) ∙ found.0,
  found.1 ∙ commands_placed w j (names_of shared lines) (place_at (marks_from 0 lines)) (place_of lines) (marks_from 0 lines) (place_same lines) (command_lines lines) (commands_of lines) (lines_of_commands 0 lines) found.0,
)
resolved_whole w j s shared lines (Err f) few h found = λ ne. jumps_decide w j s shared lines (marks_from 0 lines) few h (marks_from-names 0 lines) ∙ found ne

pub body_read : (shared lines : List (List ℕ)) (q : Reading) → q ≡ reading_after (nothing_read shared) lines → q ≡ reading (commands_of lines) (names_of shared lines) (marks_from 0 lines)
body_read shared lines q h = h ∙ read_whole (nothing_read shared) lines

pub code_decided : (w : Owner) (j : ℕ) (s : Setting) (shared lines : List (List ℕ)) (q : Reading) (numbers : List ℕ) (r : Result (Vec Command Global) Refused) → length lines ≤ 1024
    → first (faults_after w j 0 s (nothing_read shared) lines) ≡ None → q ≡ reading_after (nothing_read shared) lines → numbers ≡ command_lines lines → Resolved w j numbers r q
    → Judges r (body_faults w j s shared lines) (λ code. map command_view code.items ≡ code_of shared lines)
code_decided w j s shared lines q numbers r few h is same found =
    resolved_whole w j s shared lines r few h
    (subst (λ (p : Reading). Resolved w j (command_lines lines) r p) (body_read shared lines q is) (subst (λ (ns : List ℕ). Resolved w j ns r q) same found))

-- the commands of a body that was read have their lines
pub lines_fill : (shared lines : List (List ℕ)) (q : Reading) (numbers : List ℕ) → q ≡ reading_after (nothing_read shared) lines → numbers ≡ command_lines lines → length numbers ≡ length q.commands
lines_fill shared lines q numbers is same =
    ap length same ∙ lines_of_commands 0 lines ∙ ap (λ (p : Reading). length p.commands) (sym (body_read shared lines q is))

pub shared_read : (shared lines : List (List ℕ)) (q : Reading) → q ≡ reading_after (nothing_read shared) lines → q.names.shared ≡ shared_after shared lines
unfolding shared_after
shared_read shared lines q is = ap (λ (p : Reading). p.names.shared) (body_read shared lines q is)

-- ---- one line more

pub next_line : (items : List Value) (i : ℕ) (v : Value) (line : List ℕ) → i < length items → v ≡ get_or items i v → line ≡ line_in (view v)
    → lines_in (items_view (drop i items)) ≡ line ∷ lines_in (items_view (drop (i + 1) items))
next_line items i v line lt is text =
    ap lines_in (items_view-drop items i v lt) ∙ ap (λ (w : Value). line_in (view w) ∷ lines_in (items_view (drop (i + 1) items))) (sym is)
    ∙ ap (λ (t : List ℕ). t ∷ lines_in (items_view (drop (i + 1) items))) (sym text)

pub line_stops : (w : Owner) (j n : ℕ) (s : Setting) (r : Reading) (line : List ℕ) (left others : List (List ℕ)) (f : FileFault) (o : Option Refused) → left ≡ line ∷ others → first (said_faults s r (line_meaning line)) ≡ Some f
    → first (faults_after w j n s r left) ≡ o → o ≡ Some (refused (line_at w j n) f)
line_stops w j n s r line left others f o is h so_far =
    sym so_far ∙ ap (λ (ls : List (List ℕ)). first (faults_after w j n s r ls)) is
    ∙ first_some (at (line_at w j n) (said_faults s r (line_meaning line))) (faults_after w j (n + 1) s (reading_with r (line_meaning line)) others) (refused (line_at w j n) f) (at_some (line_at w j n) (said_faults s r (line_meaning line)) f h)

pub line_goes_on : (w : Owner) (j n : ℕ) (s : Setting) (r q : Reading) (line : List ℕ) (left others : List (List ℕ)) → left ≡ line ∷ others → first (said_faults s r (line_meaning line)) ≡ None → q ≡ reading_with r (line_meaning line)
    → first (faults_after w j n s r left) ≡ first (faults_after w j (n + 1) s q others)
line_goes_on w j n s r q line left others is good more =
    ap (λ (ls : List (List ℕ)). first (faults_after w j n s r ls)) is
    ∙ first_none (at (line_at w j n) (said_faults s r (line_meaning line))) (faults_after w j (n + 1) s (reading_with r (line_meaning line)) others) (at_none (line_at w j n) (said_faults s r (line_meaning line)) good)
    ∙ ap (λ (p : Reading). first (faults_after w j (n + 1) s p others)) (sym more)

pub line_read : (r q : Reading) (line : List ℕ) (left others : List (List ℕ)) → left ≡ line ∷ others → q ≡ reading_with r (line_meaning line) → reading_after r left ≡ reading_after q others
line_read r q line left others is more = ap (λ (ls : List (List ℕ)). reading_after r ls) is ∙ ap (λ (p : Reading). reading_after p others) (sym more)
