-- Texts that are put one after another are their whole, put once; nothing is put to a sink that is not good.
use Rattle.std.proofs.Common.{◌≡◌, ◌≢◌, ℕ, ◌+◌, ◌<◌, List, [], ◌++◌, length, refl, sym, subst, ap, ◌∙◌, append_assoc, length-append, arith, ◌⊎◌, inl, inr, Option, Some, None, append-nil}
use Rattle.std.specs.Io.KnownBytes.{Appends}
use Rattle.exectrace.specs.declared.sinks.SinkState.TheVariants.{Good, Empty, Failed}
use Rattle.exectrace.specs.{declared.sinks.SinkState.SinkState, Sink.Tape, Sink.Breaks, Sink.Puts}

pub Appends-none : (a : Option (List ℕ)) → Appends a a []
Appends-none None = tt
Appends-none (Some held) = sym (append-nil held)

pub Appends-then : (a b c : Option (List ℕ)) (xs ys : List ℕ) → Appends a b xs → Appends b c ys → Appends a c (xs ++ ys)
Appends-then None b c xs ys first more = tt
Appends-then (Some held) None c xs ys first more = absurd first
Appends-then (Some held) (Some between) None xs ys first more = absurd more
Appends-then (Some held) (Some between) (Some end) xs ys first more = more ∙ ap (λ zs. zs ++ ys) first ∙ append_assoc held xs ys

pub stopped_not_good : (state : SinkState) → (state ≡ Failed) ⊎ (state ≡ Empty 16) → state ≢ Good
stopped_not_good state stopped good = elim stopped [ inl failed ↦ cc | inr empty ↦ cc ]

-- all of a first text was taken, and a second one broke off
pub Breaks-then : (a b c : Tape) (xs ys : List ℕ) → Appends a.taken b.taken xs → Breaks b c ys → Breaks a c (xs ++ ys)
Breaks-then a b c xs ys first broke = record {
  written = xs ++ broke.written;
  missing = broke.missing;
  parts = ap (λ zs. xs ++ zs) broke.parts ∙ sym (append_assoc xs broke.written broke.missing);
  short = broke.short;
  took = Appends-then a.taken b.taken c.taken xs broke.written first broke.took;
  stopped = broke.stopped;
}

-- a first text broke off, and a second one was never begun
pub Breaks-early : (a b : Tape) (xs ys : List ℕ) → Breaks a b xs → Breaks a b (xs ++ ys)
Breaks-early a b xs ys broke = record {
  written = broke.written;
  missing = broke.missing ++ ys;
  parts = ap (λ zs. zs ++ ys) broke.parts ∙ append_assoc broke.written broke.missing ys;
  short = simp length-append (omega (arith, broke.short));
  took = broke.took;
  stopped = broke.stopped;
}

-- a sink that is not good is left alone, whatever was to be written
pub puts_nothing : {a : Tape} (bytes : List ℕ) → a.state ≢ Good → Puts a a bytes
puts_nothing bytes bad = record { while_good = λ good. absurd (bad good); afterwards = λ _. refl }

-- nothing to write
pub puts_none : (a : Tape) → Puts a a []
puts_none a = record { while_good = λ good. inl (record { took = Appends-none a.taken; good = good }); afterwards = λ bad. refl }

-- one after another
pub Puts-trans : (a b c : Tape) (xs ys : List ℕ) → Puts a b xs → Puts b c ys → Puts a c (xs ++ ys)
Puts-trans a b c xs ys p q = record {
  while_good = λ good. elim (p.while_good good) [
    | inl all ↦ elim (q.while_good all.good) [
      | inl more ↦ inl (record { took = Appends-then a.taken b.taken c.taken xs ys all.took more.took; good = more.good })
      | inr broke ↦ inr (Breaks-then a b c xs ys all.took broke)
    ]
    | inr broke ↦
        let same : c ≡ b = q.afterwards (stopped_not_good b.state broke.stopped) in
        inr (Breaks-early a c xs ys (subst (λ (t : Tape). Breaks a t xs) (sym same) broke))
  ];
  afterwards = λ bad. let first : b ≡ a = p.afterwards bad in
      let still : b.state ≢ Good = (λ e. bad (ap (λ (t : Tape). t.state) (sym first) ∙ e)) in
      q.afterwards still ∙ first;
}

-- one after another, if the bytes are another spelling of the two texts
pub puts_then : {a b c : Tape} {xs ys : List ℕ} (bytes : List ℕ) → Puts a b xs → Puts b c ys → bytes ≡ xs ++ ys → Puts a c bytes
puts_then {a} {b} {c} {xs} {ys} bytes p q e = rw e (Puts-trans a b c xs ys p q)
