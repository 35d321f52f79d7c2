-- The alert that a machine shows at the end of a run is the one that ends the run.
use Rattle.std.proofs.Common.{◌≡◌, ◌-◌, ◌+◌, ℕ, Bool, true, false, List, ◌++◌, length, take, drop, eqb, refl, ap, sym, ◌∙◌, append_assoc, Bor, Option, None, Some, Result, Ok, Err, IfOk, IfSome, MatchOption, option_map, if◌then◌else◌, map, nat_lt, codes, slice_get, option_and_then}
use Rattle.std.specs.Cmp.Lexicographic.{pointwise}
use Rattle.std.proofs.lemmas.{Bool.Decides.Decides-eqb, Option.none-some, Option.same_Some, Option.slice_get-map, Slice.Eq.strip_suffix_is}
use Rattle.exectrace.specs.Trace.{printed, printed_line}
use Rattle.exectrace.specs.Trace as trace
use Rattle.script.specs.{Commands.CommandData, Commands.command_view, declared.command.Command.Command, File.MachineData, Words.word_text}
use Rattle.taskscript.specs.Listings.{ListingData}
use Rattle.execmodel.specs.State.{Outcome, Scripts, program_of}
use Rattle.execsim.specs.{Agreement.Seen, Agreement.Agrees, Readers.task_seen, Readers.task_view}
use Rattle.runadvice.specs.{Alerts.EndsRun, Alerts.Stops, Going.EndsWith, declared.check.Alert.Alert}

ends_through : (whole text end : List ℕ) → EndsWith whole text → EndsWith text end → EndsWith whole end
ends_through whole text end one other = record {
  front = one.front ++ other.front;
  parts = one.parts ∙ ap (λ (x : List ℕ). one.front ++ x) other.parts ∙ sym (append_assoc one.front other.front end);
}

place_shown : (b : Bool) (x p : ℕ) → (if b then Some x else None) ≡ Some p → x ≡ p
place_shown true x p e = same_Some x p e
place_shown false x p e = elim (none-some p e) [ ]

mapped : {A B : Type 0} (f : A → B) (b : Bool) (x : A) → option_map f (if b then Some x else None) ≡ (if b then Some (f x) else None)
mapped f true x = refl
mapped f false x = refl

place_in : (t p : ℕ) (seen : Seen) → option_map (λ view. view.place) (task_seen t seen) ≡ Some p → (program_of seen.scripts t).place ≡ p
place_in t p seen e =
    let b = nat_lt t (length seen.scripts.programs) in
    place_shown b (program_of seen.scripts t).place p (sym (mapped (λ view. view.place) b (task_view t seen)) ∙ e)

ends_run : (m : MachineData) (listing : ListingData) (o : Outcome) (seen : Seen) (text : List ℕ) (alert : Alert)
    → Agrees seen o.state → EndsWith (printed o.lines) text → Stops m listing seen text alert → EndsRun m listing o alert
ends_run m listing o seen text alert agrees told stops = record {
  name = stops.name;
  ends = ends_through (printed o.lines) text (printed_line (trace.Alert alert.code.now stops.name (word_text alert.word))) told stops.ends;
  named = stops.named;
  word = stops.word;
  line = stops.line;
  place = λ task.
      ap (λ (s : Scripts). (program_of s alert.spot.item).place) (sym agrees.scripts)
      ∙ place_in alert.spot.item alert.spot.place seen (stops.place task);
}

some_ends_run : (m : MachineData) (listing : ListingData) (o : Outcome) (seen : Seen) (text : List ℕ) (alert : Option Alert)
    → Agrees seen o.state → EndsWith (printed o.lines) text → IfSome alert (Stops m listing seen text) → IfSome alert (EndsRun m listing o)
some_ends_run m listing o seen text None agrees told stops = stops
some_ends_run m listing o seen text (Some alert) agrees told stops = ends_run m listing o seen text alert agrees told stops

pub result_ends_run : {T E : Type 0} (m : MachineData) (listing : ListingData) (o : Outcome) (seen : Seen) (text : List ℕ) (alert_of : T → Option Alert)
    (r : Result T E) → Agrees seen o.state → EndsWith (printed o.lines) text → IfOk r (λ x. IfSome (alert_of x) (Stops m listing seen text))
    → IfOk r (λ x. IfSome (alert_of x) (EndsRun m listing o))
result_ends_run m listing o seen text alert_of (Ok x) agrees told stops = some_ends_run m listing o seen text (alert_of x) agrees told stops
result_ends_run m listing o seen text alert_of (Err fault) agrees told stops = stops

pub result_same : {T E : Type 0} {a b : Bool} (f : T → Bool) (r : Result T E) → a ≡ b → IfOk r (λ x. f x ≡ a) → IfOk r (λ x. f x ≡ b)
result_same f (Ok x) e h = h ∙ e
result_same f (Err fault) e h = h

-- ---- the line of an alert

-- what is before the end of a text
pub stripped : (s end : List ℕ) (r : Option (Bor (List ℕ)))
    → MatchOption r (pointwise eqb (drop (length s - length end) s) end ≡ false)
    (λ x. (pointwise eqb (drop (length s - length end) s) end ≡ true) × (x.now ≡ take (length s - length end) s) × (length x.now + length end ≡ length s))
    → IfSome r (λ front. s ≡ front.now ++ end)
stripped s end None m = tt
stripped s end (Some x) m = strip_suffix_is Decides-eqb s end (Some x) m

grown : {text more : List ℕ} (front got piece : List ℕ) → more ≡ text ++ piece → text ≡ front ++ got → more ≡ front ++ (got ++ piece)
grown front got piece added e = added ∙ ap (λ (x : List ℕ). x ++ piece) e ∙ append_assoc front got piece

-- what is before the line, piece by piece
line_parts : {a b c d e f : List ℕ} (g front code name word : List ℕ) → a ≡ b ++ codes "\n" → b ≡ c ++ word → c ≡ d ++ codes " " → d ≡ e ++ name
    → e ≡ f ++ codes " " → f ≡ g ++ code → g ≡ front ++ codes "alert " → a ≡ front ++ printed_line (trace.Alert code name word)
line_parts g front code name word ended worded spaced named parted coded begun =
    let first = codes "alert " ++ code in
    let second = first ++ codes " " ++ name in
    grown front (second ++ codes " " ++ word) (codes "\n") ended
    (grown front (second ++ codes " ") word worded
    (grown front second (codes " ") spaced
    (grown front (first ++ codes " ") name named
    (grown front first (codes " ") parted
    (grown front (codes "alert ") code coded begun)))))

pub line_ends : {a b c d e f : List ℕ} (g code name word : List ℕ) (r : Option (Bor (List ℕ))) → a ≡ b ++ codes "\n" → b ≡ c ++ word → c ≡ d ++ codes " "
    → d ≡ e ++ name → e ≡ f ++ codes " " → f ≡ g ++ code → IfSome r (λ front. g ≡ front.now ++ codes "alert ")
    → IfSome r (λ front. a ≡ front.now ++ printed_line (trace.Alert code name word))
line_ends g code name word None ended worded spaced named parted coded begun = tt
line_ends g code name word (Some front) ended worded spaced named parted coded begun =
    line_parts g front.now code name word ended worded spaced named parted coded begun

-- ---- a command of a file

pub command_found : (code : List Command) (place : ℕ) (found : Option (List CommandData)) (command : Option Command) → Some (map command_view code) ≡ found
    → command ≡ slice_get code place → option_map command_view command ≡ option_and_then (λ (c : List CommandData). slice_get c place) found
command_found code place found command e lookup =
    ap (option_map command_view) lookup
    ∙ sym (slice_get-map command_view code place)
    ∙ ap (option_and_then (λ (c : List CommandData). slice_get c place)) e
