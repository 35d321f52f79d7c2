-- Walks by `next_place` and `prev_place` meet a whole sequence, and end.
use Rattle.std.proofs.Common.{◌≡◌, ℕ, zero, suc, ◌+◌, ◌<◌, ◌≤◌, Bool, true, false, cond, List, [], ◌∷◌, ◌++◌, length, refl, sym, ap, ◌∙◌, subst, arith, Option, Some, None, append_assoc, map, reverse, eq-eqb, eqb-true, append-nil}
use Rattle.std.proofs.lemmas.{Bool.cond-true, Bool.cond-false, List.reverse-reverse, List.reverse-append, List.length-reverse}
use Rattle.execlist.specs.declared.link.Place.TheVariants.{Head, Node, Tail}
use Rattle.execlist.specs.{Order.first, Lists.sequence, Lists.home, Lists.is_at, Lists.times, Lists.part_before, Lists.part_after, Lists.last, declared.link.Place.Place, Places.node_or, Places.after_node, Places.before_node, Places.next_place, Places.prev_place, Places.places_met, Places.AreInOneSequence, Places.WalksMeetSequences}
use Rattle.execlist.proofs.{PlainLemmas.times-append, PlainLemmas.times_same, Walks.Once, Walks.once_from, Walks.less_once, Walks.apart}

ends : (step : Place → Option Place) (most : ℕ) → places_met step most None ≡ []
ends step zero = refl
ends step (suc most) = refl

pub at_home : (o : Option ℕ) (h : ℕ) → is_at o h ≡ true → o ≡ Some h
at_home None h e = cc
at_home (Some k) h e = ap (λ n. Some n) (eqb-true k h e)

is_there : (t : ℕ) (b : Bool) → t ≡ cond b 1 0 → 0 < t → b ≡ true
is_there t true e l = refl
is_there t false e l = absurd (omega (arith, e, l))

inside : (n : ℕ) (before rest : List ℕ) → 0 < times n (before ++ n ∷ rest)
inside n before rest = omega (arith, times-append n before (n ∷ rest), times_same n rest)

-- the parts of a sequence on the two sides of a node
on_its_sides : (n : ℕ) (before rest : List ℕ) → Once (before ++ n ∷ rest) → (part_before n (before ++ n ∷ rest) ≡ before) × (part_after n (before ++ n ∷ rest) ≡ rest)
on_its_sides n [] rest o = (cond-true _ _ _ (eq-eqb n n refl), cond-true _ _ _ (eq-eqb n n refl))
on_its_sides n (x ∷ before) rest o =
    let others = on_its_sides n before rest (less_once x (before ++ n ∷ rest) o) in
    let other = apart x n (before ++ n ∷ rest) o (inside n before rest) in
    (cond-false _ _ _ other ∙ ap (λ xs. x ∷ xs) others.0, cond-false _ _ _ other ∙ others.1)

last_is : (n : ℕ) (xs : List ℕ) → last (xs ++ n ∷ []) ≡ Some n
last_is n [] = refl
last_is n (x ∷ []) = refl
last_is n (x ∷ y ∷ xs) = last_is n (y ∷ xs)

module _ (seqs : List (List ℕ)) (homes : List (Option ℕ)) (once_each : AreInOneSequence seqs homes) (h : ℕ) where
  abbrev seq : List ℕ
  seq = sequence seqs h

  once : Once seq
  once = once_from seq (home homes) h (once_each h)

  is_home : (n : ℕ) → 0 < times n seq → home homes n ≡ Some h
  is_home n l = at_home (home homes n) h (is_there (times n seq) (is_at (home homes n) h) (once_each h n) l)

  onwards : (before rest : List ℕ) → seq ≡ before ++ rest → (most : ℕ) → length rest < most
      → places_met (next_place seqs homes) most (Some (node_or (Tail h) (first rest))) ≡ map (λ n. Node n) rest ++ Tail h ∷ []
  onwards before [] e zero l = absurd (omega (arith, l))
  onwards before [] e (suc most) l = ap (λ ps. Tail h ∷ ps) (ends (next_place seqs homes) most)
  onwards before (n ∷ rest) e zero l = absurd (omega (arith, l))
  onwards before (n ∷ rest) e (suc most) l =
      let there = subst (λ xs. 0 < times n xs) (sym e) (inside n before rest) in
      let sides = on_its_sides n before rest (subst Once e once) in
      let step : next_place seqs homes (Node n) ≡ Some (node_or (Tail h) (first rest)) =
      ap (after_node seqs n) (is_home n there) ∙ ap (λ xs. Some (node_or (Tail h) (first (part_after n xs)))) e
      ∙ ap (λ xs. Some (node_or (Tail h) (first xs))) sides.1 in
      ap (λ p. Node n ∷ places_met (next_place seqs homes) most p) step
      ∙ ap (λ ps. Node n ∷ ps) (onwards (before ++ n ∷ []) rest (e ∙ sym (append_assoc before (n ∷ []) rest)) most (omega (arith, l)))

  back : (reversed rest : List ℕ) → seq ≡ reverse reversed ++ rest → (most : ℕ) → length reversed < most
      → places_met (prev_place seqs homes) most (Some (node_or (Head h) (last (reverse reversed)))) ≡ map (λ n. Node n) reversed ++ Head h ∷ []
  back [] rest e zero l = absurd (omega (arith, l))
  back [] rest e (suc most) l = ap (λ ps. Head h ∷ ps) (ends (prev_place seqs homes) most)
  back (n ∷ reversed) rest e zero l = absurd (omega (arith, l))
  back (n ∷ reversed) rest e (suc most) l =
      let split : reverse (n ∷ reversed) ≡ reverse reversed ++ n ∷ [] = reverse-append (n ∷ []) reversed in
      let parts : seq ≡ reverse reversed ++ n ∷ rest = e ∙ ap (λ xs. xs ++ rest) split ∙ append_assoc (reverse reversed) (n ∷ []) rest in
      let there = subst (λ xs. 0 < times n xs) (sym parts) (inside n (reverse reversed) rest) in
      let sides = on_its_sides n (reverse reversed) rest (subst Once parts once) in
      let step : prev_place seqs homes (Node n) ≡ Some (node_or (Head h) (last (reverse reversed))) =
      ap (before_node seqs n) (is_home n there) ∙ ap (λ xs. Some (node_or (Head h) (last (part_before n xs)))) parts
      ∙ ap (λ xs. Some (node_or (Head h) (last xs))) sides.0 in
      ap (λ xs. places_met (prev_place seqs homes) (suc most) (Some (node_or (Head h) (last xs)))) split
      ∙ ap (λ o. places_met (prev_place seqs homes) (suc most) (Some (node_or (Head h) o))) (last_is n (reverse reversed))
      ∙ ap (λ p. Node n ∷ places_met (prev_place seqs homes) most p) step
      ∙ ap (λ ps. Node n ∷ ps) (back reversed (n ∷ rest) parts most (omega (arith, l)))

  all_onwards : (most : ℕ) → length seq + 2 ≤ most
      → places_met (next_place seqs homes) most (Some (Head h)) ≡ Head h ∷ map (λ n. Node n) seq ++ Tail h ∷ []
  all_onwards zero l = absurd (omega (arith, l))
  all_onwards (suc most) l = ap (λ ps. Head h ∷ ps) (onwards [] seq refl most (omega (arith, l)))

  all_back : (most : ℕ) → length seq + 2 ≤ most
      → places_met (prev_place seqs homes) most (Some (Tail h)) ≡ Tail h ∷ map (λ n. Node n) (reverse seq) ++ Head h ∷ []
  all_back zero l = absurd (omega (arith, l))
  all_back (suc most) l =
      let whole : seq ≡ reverse (reverse seq) ++ [] = sym (append-nil (reverse (reverse seq)) ∙ reverse-reverse seq) in
      ap (λ xs. Tail h ∷ places_met (prev_place seqs homes) most (Some (node_or (Head h) (last xs)))) (sym (reverse-reverse seq))
      ∙ ap (λ ps. Tail h ∷ ps) (back (reverse seq) [] whole most (omega (arith, l, length-reverse seq)))

pub walks_meet_sequences : WalksMeetSequences
walks_meet_sequences seqs homes once_each h most l = record {
  onwards = all_onwards seqs homes once_each h most l;
  back = all_back seqs homes once_each h most l;
}
