-- An outcome of later ways, added to those of earlier ones, which are kept as a map from texts to tallies.
use Rattle.std.proofs.Common.{◌≡◌, ◌∙◌, ℕ, Bool, true, false, cond, inl, inr, ◌+◌, List, [], ◌∷◌, None, Some, if◌then◌else◌, ap, ap₂, sym, bytes_eq, string_bytes}
use Rattle.std.specs.{Global.Vec, Map.lookup, Map.set_value}
use Rattle.std.proofs.lemmas.Option.{none-some, same_Some}
use Rattle.indexmap.specs.IndexMap.{insert_entry}
use Rattle.ways.specs.Tables.{Entry, added}
use Rattle.ways.proofs.{Maps.turned, Merging.either}
use Rattle.wayreport.specs.{Totals.entry_in, Totals.entries_in, declared.total.Tally.Tally}

abbrev both : Entry (List ℕ) → Entry (List ℕ) → Entry (List ℕ)
both x e = record { seen = x.seen; count = x.count + e.count; first = x.first }

hit : (x : Entry (List ℕ)) (xs : List (Entry (List ℕ))) (e : Entry (List ℕ)) → bytes_eq x.seen e.seen ≡ true → added (x ∷ xs) e ≡ both x e ∷ xs
hit x xs e h = ap (λ (b : Bool). if b then both x e ∷ xs else x ∷ added xs e) h

miss : (x : Entry (List ℕ)) (xs : List (Entry (List ℕ))) (e : Entry (List ℕ)) → bytes_eq x.seen e.seen ≡ false → added (x ∷ xs) e ≡ x ∷ added xs e
miss x xs e h = ap (λ (b : Bool). if b then both x e ∷ xs else x ∷ added xs e) h

-- an entry is its three parts
made : (k : Vec ℕ) (v : Tally) (e : Entry (List ℕ)) → k.items ≡ e.seen → v.count ≡ e.count → string_bytes v.first ≡ e.first → entry_in (k, v) ∷ [] ≡ e ∷ []
made k v e is count first =
    ap (λ (s : List ℕ). (record { seen = s; count = v.count; first = string_bytes v.first }) ∷ []) is
    ∙ ap₂ (λ (n : ℕ) (f : List ℕ). (record { seen = e.seen; count = n; first = f }) ∷ []) count first

module _ (e : Entry (List ℕ)) where
  -- the test by which a text is looked up
  abbrev pub asks : Vec ℕ → Bool
  asks k = bytes_eq e.seen k.items

  -- a text that is there is counted that much more
  pub again : (ps : List (Vec ℕ × Tally)) (v w : Tally) → lookup asks ps ≡ Some v → w ≡ record { count = v.count + e.count; first = v.first }
      → entries_in (set_value asks ps w) ≡ added (entries_in ps) e
  again [] v w found more = absurd (none-some v found)
  again (p ∷ ps) v w found more = elim (either (asks p.0)) as (λ _. entries_in (set_value asks (p ∷ ps) w) ≡ added (entries_in (p ∷ ps)) e) [
    | inl h ↦
        let is : p.1 ≡ v = same_Some p.1 v (sym (ap (λ b. cond b (Some p.1) (lookup asks ps)) h) ∙ found) in
        ap (λ b. entries_in (cond b ((p.0, w) ∷ ps) (p ∷ set_value asks ps w))) h
        ∙ (ap (λ (t : Tally). entry_in (p.0, t) ∷ entries_in ps) (more ∙ ap (λ (t : Tally). record { count = t.count + e.count; first = t.first }) (sym is))
        ∙ sym (hit (entry_in p) (entries_in ps) e (turned p.0.items e.seen ∙ h)))
    | inr h ↦
        ap (λ b. entries_in (cond b ((p.0, w) ∷ ps) (p ∷ set_value asks ps w))) h
        ∙ (ap (λ l. entry_in p ∷ l) (again ps v w (sym (ap (λ b. cond b (Some p.1) (lookup asks ps)) h) ∙ found) more)
        ∙ sym (miss (entry_in p) (entries_in ps) e (turned p.0.items e.seen ∙ h)))
  ]

  -- a text that is not there comes last
  pub opened : (ps : List (Vec ℕ × Tally)) (k : Vec ℕ) (v : Tally) → lookup asks ps ≡ None → k.items ≡ e.seen → v.count ≡ e.count → string_bytes v.first ≡ e.first
      → entries_in (insert_entry (λ a b. bytes_eq a.items b.items) ps k v) ≡ added (entries_in ps) e
  opened [] k v none is count first = made k v e is count first
  opened (p ∷ ps) k v none is count first = elim (either (asks p.0)) as (λ _. entries_in (insert_entry (λ a b. bytes_eq a.items b.items) (p ∷ ps) k v) ≡ added (entries_in (p ∷ ps)) e) [
    | inl h ↦ absurd (none-some p.1 (sym none ∙ ap (λ b. cond b (Some p.1) (lookup asks ps)) h))
    | inr h ↦
        ap (λ b. entries_in (if b then (p.0, v) ∷ ps else p ∷ insert_entry (λ a b. bytes_eq a.items b.items) ps k v)) (ap (λ (t : List ℕ). bytes_eq t p.0.items) is ∙ h)
        ∙ (ap (λ l. entry_in p ∷ l) (opened ps k v (sym (ap (λ b. cond b (Some p.1) (lookup asks ps)) h) ∙ none) is count first)
        ∙ sym (miss (entry_in p) (entries_in ps) e (turned p.0.items e.seen ∙ h)))
  ]
