-- A tag is read as it is defined: a library, nothing, or by the kind of its last three bits.
use Rattle.std.proofs.Common.{◌≡◌, ℕ, zero, suc, ◌-◌, ◌/◌, ◌%◌, ◌<◌, ap, sym, ◌∙◌, arith, Option, None, Some, if◌then◌else◌, slice_get, lt-ltb, le-ltb}
use Rattle.execheap.specs.{declared.tag.Kind.Kind, declared.tag.Tagged.TheVariants.Library, Tags.kinds, Tags.libraries, Tags.object_or_plain, Tags.object_tagged, Tags.tagged}
use Rattle.execheap.proofs.tag.read.Goals as goal

below : (tag : ℕ) → tag < libraries → tagged tag ≡ object_tagged tag
unfolding tagged
below tag less = ap (λ b. if b then object_tagged tag else Library (tag - libraries)) (lt-ltb tag libraries less)

-- a tag that names a kind, or none
of_code : (tag : ℕ) (o : Option Kind) → tag < libraries → 0 < tag → slice_get kinds ((tag - 1) % 8) ≡ o → object_or_plain o ((tag - 1) / 8) ≡ tagged tag
of_code zero o less more is = absurd (omega (arith, more))
of_code (suc n) o less more is =
    let one : suc n - 1 ≡ n = omega arith in
    ap (λ p. object_or_plain p ((suc n - 1) / 8)) (sym is) ∙ ap (λ m. object_or_plain (slice_get kinds (m % 8)) (m / 8)) one
    ∙ sym (below (suc n) less)

pub returns-then-tag-ge-LIBRARIES : goal.returns-then-tag-ge-LIBRARIES
unfolding tagged
returns-then-tag-ge-LIBRARIES c =
    sym (ap (λ b. if b then object_tagged c.args.tag else Library (c.args.tag - libraries)) (le-ltb c.args.tag libraries c.if-tag-ge-LIBRARIES.true))

pub returns-then-tag-eq0 : goal.returns-then-tag-eq0
returns-then-tag-eq0 c = sym (below c.args.tag c.if-tag-ge-LIBRARIES.false ∙ ap object_tagged c.if-tag-eq0.true)

pub returns-in-Some : goal.returns-in-Some
returns-in-Some c = of_code c.args.tag (Some c.in-Some.kind) c.if-tag-ge-LIBRARIES.false (omega (arith, c.if-tag-eq0.false)) (sym c.in-Some.ensures)

pub returns-in-None : goal.returns-in-None
returns-in-None c = of_code c.args.tag None c.if-tag-ge-LIBRARIES.false (omega (arith, c.if-tag-eq0.false)) (sym c.in-None.ensures)
