-- A table that is kept as a map from texts to tallies.
use Rattle.std.proofs.Common.{◌≡◌, ◌∙◌, ℕ, Bool, cond, inl, inr, ◌+◌, List, [], ◌∷◌, None, Some, if◌then◌else◌, ap, ap₂, sym, bytes_eq, true≢false}
use Rattle.std.specs.{Global.Vec, Map.lookup, Map.set_value}
use Rattle.std.proofs.lemmas.{Slice.Eq.bytes_eq-Decides, Option.none-some, Option.same_Some}
use Rattle.indexmap.specs.IndexMap.{insert_entry}
use Rattle.script.specs.declared.event.Event.{Event}
use Rattle.ways.specs.{Tables.noted, Entries.entry_in, Entries.entries_in, declared.table.Tally.Tally}
use Rattle.ways.proofs.Merging.{either, noted-hit, noted-miss}

-- two texts are the same in either order
pub turned : (a b : List ℕ) → bytes_eq a b ≡ bytes_eq b a
turned a b = elim (either (bytes_eq a b)) as (λ _. bytes_eq a b ≡ bytes_eq b a) [
  | inl h ↦ h ∙ sym ((bytes_eq-Decides b a).1 (sym ((bytes_eq-Decides a b).0 h)))
  | inr h ↦ elim (either (bytes_eq b a)) as (λ _. bytes_eq a b ≡ bytes_eq b a) [
    | inl k ↦ absurd (true≢false (sym ((bytes_eq-Decides a b).1 (sym ((bytes_eq-Decides b a).0 k))) ∙ h))
    | inr k ↦ h ∙ sym k
  ]
]

-- an entry is its three parts
made : (k : Vec ℕ) (v : Tally) (text : List ℕ) (way : List Event) → k.items ≡ text → v.count ≡ 1 → v.first.items ≡ way
    → entry_in (k, v) ∷ [] ≡ record { seen = text; count = 1; first = way } ∷ []
made k v text way is one first =
    ap (λ (s : List ℕ). (record { seen = s; count = v.count; first = v.first.items }) ∷ []) is
    ∙ ap₂ (λ (n : ℕ) (f : List Event). (record { seen = text; count = n; first = f }) ∷ []) one first

module _ (text : List ℕ) (way : List Event) where
  -- the test by which a text is looked up
  abbrev pub asks : Vec ℕ → Bool
  asks k = bytes_eq text k.items

  -- a text that is there is counted once more
  pub again : (ps : List (Vec ℕ × Tally)) (v w : Tally) → lookup asks ps ≡ Some v → w ≡ record { count = v.count + 1; first = v.first }
      → entries_in (set_value asks ps w) ≡ noted (entries_in ps) text way
  again [] v w found more = absurd (none-some v found)
  again (p ∷ ps) v w found more = elim (either (asks p.0)) as (λ _. entries_in (set_value asks (p ∷ ps) w) ≡ noted (entries_in (p ∷ ps)) text way) [
    | inl h ↦
        let is : p.1 ≡ v = same_Some p.1 v (sym (ap (λ b. cond b (Some p.1) (lookup asks ps)) h) ∙ found) in
        ap (λ b. entries_in (cond b ((p.0, w) ∷ ps) (p ∷ set_value asks ps w))) h
        ∙ (ap (λ (t : Tally). entry_in (p.0, t) ∷ entries_in ps) (more ∙ ap (λ (t : Tally). record { count = t.count + 1; first = t.first }) (sym is))
        ∙ sym (noted-hit (entry_in p) (entries_in ps) text way (turned p.0.items text ∙ h)))
    | inr h ↦
        ap (λ b. entries_in (cond b ((p.0, w) ∷ ps) (p ∷ set_value asks ps w))) h
        ∙ (ap (λ l. entry_in p ∷ l) (again ps v w (sym (ap (λ b. cond b (Some p.1) (lookup asks ps)) h) ∙ found) more)
        ∙ sym (noted-miss (entry_in p) (entries_in ps) text way (turned p.0.items text ∙ h)))
  ]

  -- a text that is not there comes last
  pub opened : (ps : List (Vec ℕ × Tally)) (k : Vec ℕ) (v : Tally) → lookup asks ps ≡ None → k.items ≡ text → v.count ≡ 1 → v.first.items ≡ way
      → entries_in (insert_entry (λ a b. bytes_eq a.items b.items) ps k v) ≡ noted (entries_in ps) text way
  opened [] k v none is one first = made k v text way is one first
  opened (p ∷ ps) k v none is one first = elim (either (asks p.0)) as (λ _. entries_in (insert_entry (λ a b. bytes_eq a.items b.items) (p ∷ ps) k v) ≡ noted (entries_in (p ∷ ps)) text way) [
    | inl h ↦ absurd (none-some p.1 (sym none ∙ ap (λ b. cond b (Some p.1) (lookup asks ps)) h))
    | inr h ↦
        ap (λ b. entries_in (if b then (p.0, v) ∷ ps else p ∷ insert_entry (λ a b. bytes_eq a.items b.items) ps k v)) (ap (λ (t : List ℕ). bytes_eq t p.0.items) is ∙ h)
        ∙ (ap (λ l. entry_in p ∷ l) (opened ps k v (sym (ap (λ b. cond b (Some p.1) (lookup asks ps)) h) ∙ none) is one first)
        ∙ sym (noted-miss (entry_in p) (entries_in ps) text way (turned p.0.items text ∙ h)))
  ]
