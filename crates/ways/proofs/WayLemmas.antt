-- Ways one by one, and their number.
use Rattle.std.proofs.Common.{◌≡◌, ◌∙◌, ℕ, suc, ◌+◌, ◌-◌, ◌<◌, ◌≤◌, List, [], ◌∷◌, ◌++◌, map, length, take, drop, get_or, refl, ap, ap₂, sym, append_assoc, arith, fold, append-nil}
use Rattle.std.proofs.lemmas.{List.map-append, List.drop_more, List.take_more, List.take-append-le, List.length_push, Grind.fold-append, Grind.flat_map-append}
use Rattle.ways.specs.Ways.{exactly, with_before, with_each, ways}

module _ {E : Type 0} where
  -- an action more before what follows
  pub front_more : (front : List E) (a : E) (ws : List (List E)) → map (λ rest. front ++ rest) (with_before a ws) ≡ map (λ rest. (front ++ a ∷ []) ++ rest) ws
  front_more front a [] = refl
  front_more front a (w ∷ ws) = ap₂ (λ (x : List E) (xs : List (List E)). x ∷ xs) (sym (append_assoc front (a ∷ []) w)) (front_more front a ws)

  -- what is in front stays there when more comes after it
  pub front_longer : (n : ℕ) (old mid new : List E) (a : E) → mid ≡ old → new ≡ mid ++ a ∷ [] → n ≤ length old → n ≤ length new
  front_longer n old mid new a same grown le =
      let e : length new ≡ length old + 1 = ap length grown ∙ (length_push mid a ∙ ap (λ (l : List E). length l + 1) same) in
      omega (arith, e, le)

  pub front_kept : (n : ℕ) (base old mid new : List E) (a : E) → mid ≡ old → new ≡ mid ++ a ∷ [] → n ≤ length old → take n old ≡ base → take n new ≡ base
  front_kept n base old mid new a same grown le is = ap (take n) (grown ∙ ap (λ l. l ++ a ∷ []) same) ∙ (take-append-le n old (a ∷ []) le ∙ is)

  module _ {S : Type 0} (f : S → List E → S) where
    -- the ways after one more action, after others
    pub fold_more : (v : S) (front : List E) (ws : List (List E)) (a : E) (zs : List (List E))
        → fold f v (map (λ rest. front ++ rest) (ws ++ with_before a zs)) ≡ fold f (fold f v (map (λ rest. front ++ rest) ws)) (map (λ rest. (front ++ a ∷ []) ++ rest) zs)
    fold_more v front ws a zs =
        ap (fold f v) (map-append (λ rest. front ++ rest) ws (with_before a zs))
        ∙ (fold-append f v (map (λ rest. front ++ rest) ws) (map (λ rest. front ++ rest) (with_before a zs))
        ∙ ap (fold f (fold f v (map (λ rest. front ++ rest) ws))) (front_more front a zs))

    -- one more kind
    pub kind_more : (v w u : S) (front old new : List E) (kinds : List E) (i : ℕ) (kind d : E) (ws : List (List E)) → i < length kinds → kind ≡ get_or kinds i d
        → old ≡ front → new ≡ old ++ kind ∷ []
        → w ≡ fold f v (map (λ rest. front ++ rest) (with_each (take i kinds) ws))
        → u ≡ fold f w (map (λ rest. new ++ rest) ws)
        → u ≡ fold f v (map (λ rest. front ++ rest) (with_each (take (i + 1) kinds) ws))
    kind_more v w u front old new kinds i kind d ws lt is same grown before step =
        step ∙ (ap₂ (λ (l : List E) (s : S). fold f s (map (λ rest. l ++ rest) ws)) (grown ∙ ap (λ l. l ++ kind ∷ []) same) before
        ∙ (sym (fold_more v front (with_each (take i kinds) ws) kind ws)
        ∙ ap (λ l. fold f v (map (λ rest. front ++ rest) l)) (sym (
        ap (λ ks. with_each ks ws) (take_more kinds i d lt ∙ ap (λ k. take i kinds ++ k ∷ []) (sym is))
        ∙ (flat_map-append (λ e. with_before e ws) (take i kinds) (kind ∷ [])
        ∙ ap (λ l. with_each (take i kinds) ws ++ l) (append-nil (with_before kind ws)))))))

    -- one place on
    pub place_more : (v w : S) (old mid new : List E) (kinds acts : List E) (j at : ℕ) (a d : E) (target : S) → mid ≡ old → new ≡ mid ++ a ∷ [] → at < length acts → a ≡ get_or acts at d
        → fold f v (map (λ rest. old ++ rest) (exactly kinds (suc j) (drop at acts))) ≡ target
        → w ≡ fold f v (map (λ rest. old ++ rest) (with_each kinds (exactly kinds j (drop at acts))))
        → fold f w (map (λ rest. new ++ rest) (exactly kinds (suc j) (drop (at + 1) acts))) ≡ target
    place_more v w old mid new kinds acts j at a d target same grown lt is before step =
        let here : drop at acts ≡ a ∷ drop (at + 1) acts = drop_more acts at d lt ∙ ap (λ x. x ∷ drop (at + 1) acts) (sym is) in
        ap₂ (λ (l : List E) (s : S). fold f s (map (λ rest. l ++ rest) (exactly kinds (suc j) (drop (at + 1) acts))))
        (grown ∙ ap (λ l. l ++ a ∷ []) same)
        (step ∙ ap (λ xs. fold f v (map (λ rest. old ++ rest) (with_each kinds (exactly kinds j xs)))) here)
        ∙ (sym (fold_more v old (with_each kinds (exactly kinds j (a ∷ drop (at + 1) acts))) a (exactly kinds (suc j) (drop (at + 1) acts)))
        ∙ (ap (λ xs. fold f v (map (λ rest. old ++ rest) (exactly kinds (suc j) xs))) (sym here) ∙ before))

    -- one extra more
    pub extra_more : (p q r : S) (kinds acts : List E) (k n : ℕ) → n ≡ suc k → q ≡ fold f p (ways kinds k acts) → r ≡ fold f q (exactly kinds n acts) → r ≡ fold f p (ways kinds n acts)
    extra_more p q r kinds acts k n is before step =
        step ∙ (ap₂ (λ (m : ℕ) (s : S). fold f s (exactly kinds m acts)) is before
        ∙ (sym (fold-append f p (ways kinds k acts) (exactly kinds (suc k) acts)) ∙ ap (λ m. fold f p (ways kinds m acts)) (sym is)))
