-- How writes follow one another: to a writer's bytes, at a break, and for calls that do not fail.
use Rattle.std.proofs.Common.{◌≡◌, ◌≢◌, ℕ, zero, suc, ◌+◌, ◌-◌, ◌<◌, ◌≤◌, List, [], ◌∷◌, ◌++◌, length, take, drop, refl, sym, subst, ap, ◌∙◌, append_assoc, length-drop, length-append, arith, ◌⊎◌, inl, inr, get_or, map, ◌↔◌, true, false, Option, Some, None, Result, Ok, Err, IsOk, take-append-drop, append-nil, flat_map, take-add}
use Rattle.std.proofs.lemmas.{List.take_rest, List.take_more, List.map-append, Grind.flat_map-append}
use Rattle.std.specs.Io.KnownBytes.{Appends}
use Rattle.exectrace.specs.Putting.{Appends-none, Appends-then, stopped_not_good, Breaks-then, puts_none, Puts-trans}
use Rattle.exectrace.specs.declared.sinks.SinkState.TheVariants.{Good, Empty, Failed}
use Rattle.exectrace.specs.{declared.sinks.SinkState.SinkState, Sink.empties, Sink.after_taking, Sink.Tape, Sink.TakesAll, Sink.Breaks, Sink.Puts, Sink.Writes, Sink.Adds}

-- after the first k bytes, a write of the rest that took n
pub Appends-rest : (a b c : Option (List ℕ)) (k n : ℕ) (xs : List ℕ) → Appends a b (take k xs) → Appends b c (take n (take (length xs - k) (drop k xs))) → Appends a c (take (k + n) xs)
Appends-rest a b c k n xs first more =
    let more' : Appends b c (take n (drop k xs)) = rw take_rest at more in
    rw take-add (Appends-then a b c _ _ first more')

pub rest_fits : (k n : ℕ) (xs : List ℕ) → k < length xs → n ≤ length (take (length xs - k) (drop k xs)) → k + n ≤ length xs
rest_fits k n xs below fits =
    let fits' : n ≤ length (drop k xs) = rw take_rest at fits in
    omega (arith, fits', length-drop k xs)

-- The state of a sink.

-- a write that brings the empty ones to 16 took nothing
exhausted : (before after : SinkState) (n : ℕ) → empties before < 16 → after ≡ after_taking before n → 16 ≤ empties after → (n ≡ 0) × (after ≡ Empty 16)
exhausted before after zero below e full =
    let full' : 16 ≤ empties before + 1 = rw e at full in
    let same : empties before + 1 ≡ 16 = omega arith in
    (refl, e ∙ ap Empty same)
exhausted before after (suc n) below e full = let full' : 16 ≤ 0 = rw e at full in absurd (omega arith)

-- a write that took the rest leaves the sink good
pub good_at_end : (before after : SinkState) (k n m : ℕ) → k < m → after ≡ after_taking before n → m ≤ k + n → after ≡ Good
good_at_end before after k zero m below e all = absurd (omega arith)
good_at_end before after k (suc n) m below e all = e

-- If a text breaks off.

-- the first k bytes of a text were taken, and the sink takes no more
Breaks-at : (a b : Tape) (k : ℕ) (xs : List ℕ) → k < length xs → Appends a.taken b.taken (take k xs) → (b.state ≡ Failed) ⊎ (b.state ≡ Empty 16) → Breaks a b xs
Breaks-at a b k xs below took stopped = record {
  written = take k xs;
  missing = drop k xs;
  parts = sym (take-append-drop k xs);
  short = simp length-drop (omega (arith, below));
  took = took;
  stopped = stopped;
}

-- after the first k bytes, the 16th empty write in a row
pub Breaks-exhausted : (a b c : Tape) (k n : ℕ) (xs : List ℕ) → k < length xs → empties b.state < 16 → Appends a.taken b.taken (take k xs)
    → Appends b.taken c.taken (take n (take (length xs - k) (drop k xs))) → c.state ≡ after_taking b.state n → 16 ≤ empties c.state → Breaks a c xs
Breaks-exhausted a b c k n xs below few first more state full =
    let both = exhausted b.state c.state n few state full in
    let n-zero : n ≡ 0 = both.0 in
    let sum : k + n ≡ k = omega arith in
    let took : Appends a.taken c.taken (take k xs) = subst (λ m. Appends a.taken c.taken (take m xs)) sum (Appends-rest a.taken b.taken c.taken k n xs first more) in
    Breaks-at a c k xs below took (inr both.1)

-- Calls that do not fail.

-- the first n bytes were taken, and the rest after them, or a part of it
pub puts_rest : {T E : Type 0} (a b c : Tape) (n : ℕ) (xs : List ℕ) (result : Result T E) → a.state ≡ Good → Appends a.taken b.taken (take n xs)
    → Writes b c (take (length xs - n) (drop n xs)) result → Puts a c xs
puts_rest a b c n xs (Ok value) good first all =
    let more : Appends b.taken c.taken (drop n xs) = rw take_rest at all.took in
    let took : Appends a.taken c.taken xs = subst (λ zs. Appends a.taken c.taken zs) (take-append-drop n xs) (Appends-then a.taken b.taken c.taken _ _ first more) in
    record { while_good = λ _. inl (record { took = took; good = all.good }); afterwards = λ bad. absurd (bad good) }
puts_rest a b c n xs (Err fault) good first broke =
    let more : Breaks b c (drop n xs) = rw take_rest at broke in
    let whole : Breaks a c xs = subst (λ zs. Breaks a c zs) (take-append-drop n xs) (Breaks-then a b c _ _ first more) in
    record { while_good = λ _. inr whole; afterwards = λ bad. absurd (bad good) }

-- another spelling of the same bytes
pub put_same : {a b : Tape} {xs : List ℕ} (ys : List ℕ) → Puts a b xs → ys ≡ xs → Puts a b ys
put_same ys p e = rw e p

-- a sink that was good and is good took all
pub put_all : {a b : Tape} {xs : List ℕ} → Puts a b xs → a.state ≡ Good → b.state ≡ Good → TakesAll a b xs
put_all {a} {b} {xs} p good still = elim (p.while_good good) [ inl all ↦ all | inr broke ↦ absurd (stopped_not_good b.state broke.stopped still) ]

-- a sink that was good and is not good broke off
pub put_part : {a b : Tape} {xs : List ℕ} → Puts a b xs → a.state ≡ Good → b.state ≢ Good → Breaks a b xs
put_part {a} {b} {xs} p good bad = elim (p.while_good good) [ inl all ↦ absurd (bad all.good) | inr broke ↦ broke ]

-- what a call answers that puts its bytes to a good sink, and then asks whether all was written
pub puts_written : {T E : Type 0} {a b : Tape} {xs : List ℕ} (result : Result T E) → Puts a b xs → a.state ≡ Good → (IsOk result ↔ (b.state ≡ Good)) → Writes a b xs result
puts_written (Ok value) p good whole = put_all p good (whole.0 refl)
puts_written (Err fault) p good whole = put_part p good (λ still. let bad : false ≡ true = whole.1 still in cc)

-- Lines that are built before they are handed over.

-- the text fits, and nothing is handed over
pub adds_fitting : (a : Tape) (before after text : List ℕ) → after ≡ before ++ text → Adds a a before after text
adds_fitting a before after text e = record { handed = []; puts = puts_none a; whole = sym e }

-- the text does not fit: what was built, and the text, are handed over
pub adds_over : {a b c : Tape} {before after text : List ℕ} → Puts a b before → Puts b c text → after ≡ [] → Adds a c before after text
adds_over {a} {b} {c} {before} {after} {text} p q e =
    record { handed = before ++ text; puts = Puts-trans a b c before text p q; whole = rw e (sym (append-nil (before ++ text))) }

-- no text
pub adds_none : (a : Tape) (before : List ℕ) → Adds a a before before []
adds_none a before = adds_fitting a before before [] (sym (append-nil before))

-- one text after another, if the bytes are another spelling of the two
pub adds_then : {a b c : Tape} {built between after xs ys : List ℕ} (text : List ℕ)
    → Adds a b built between xs → Adds b c between after ys → text ≡ xs ++ ys → Adds a c built after text
adds_then {a} {b} {c} {built} {between} {after} {xs} {ys} text p q e = record {
  handed = p.handed ++ q.handed;
  puts = Puts-trans a b c p.handed q.handed p.puts q.puts;
  whole = ap (λ zs. built ++ zs) e ∙ sym (append_assoc built xs ys) ∙ ap (λ zs. zs ++ ys) p.whole ∙ append_assoc p.handed between ys
      ∙ ap (λ zs. p.handed ++ zs) q.whole ∙ sym (append_assoc p.handed q.handed after);
}

-- one text after another, the second of two parts
pub adds_both : {a b c : Tape} {built between after xs : List ℕ} (ys zs : List ℕ)
    → Adds a b built between xs → Adds b c between after (ys ++ zs) → Adds a c built after ((xs ++ ys) ++ zs)
adds_both {a} {b} {c} {built} {between} {after} {xs} ys zs p q = adds_then _ p q (append_assoc xs ys zs)

-- a line that began empty is handed over to its end
pub adds_all : {a b c : Tape} {built after text : List ℕ} → built ≡ [] → Adds a b built after text → Puts b c after → Puts a c text
adds_all {a} {b} {c} {built} {after} {text} empty p q =
    put_same text (Puts-trans a b c p.handed after p.puts q) (sym (ap (λ zs. zs ++ text) empty) ∙ p.whole)

-- Lines.

-- one more of what is made of a list
pub flat_map_mapped_more : {X Y A : Type 0} (f : Y → List A) (g : X → Y) (xs : List X) (i : ℕ) (d : X) → i < length xs → flat_map f (map g (take (i + 1) xs)) ≡ flat_map f (map g (take i xs)) ++ f (g (get_or xs i d))
flat_map_mapped_more f g xs i d h =
    ap (λ z. flat_map f (map g z)) (take_more xs i d h)
    ∙ ap (flat_map f) (map-append g (take i xs) (get_or xs i d ∷ []))
    ∙ flat_map-append f (map g (take i xs)) (g (get_or xs i d) ∷ [])
    ∙ ap (λ z. flat_map f (map g (take i xs)) ++ z) (append-nil (f (g (get_or xs i d))))

-- the texts of one element more
pub flat_map_mapped_next : {X Y A : Type 0} (f : Y → List A) (g : X → Y) (xs : List X) (i : ℕ) (d : X) → i < length xs → get_or xs i d ≡ d → flat_map f (map g (take (i + 1) xs)) ≡ flat_map f (map g (take i xs)) ++ f (g d)
flat_map_mapped_next f g xs i d h e = flat_map_mapped_more f g xs i d h ∙ ap (λ z. flat_map f (map g (take i xs)) ++ f (g z)) e

-- nothing was done before
pub puts_still : {a b c : Tape} {bytes : List ℕ} → b ≡ a → Puts b c bytes → Puts a c bytes
puts_still {a} {b} {c} {bytes} still p = subst (λ (t : Tape). Puts t c bytes) still p

-- a good sink took all
pub puts_taken : {a b : Tape} (bytes : List ℕ) → a.state ≡ Good → TakesAll a b bytes → Puts a b bytes
puts_taken bytes good all = record { while_good = λ _. inl all; afterwards = λ bad. absurd (bad good) }
