-- One more library is the same.
use Rattle.std.proofs.Common.{◌≡◌, ◌<◌, true, false, length, map, slice_get, Some, refl, ap, arith, sym, ◌∙◌, option_map}
use Rattle.std.proofs.lemmas.Option.{slice_get_read, slice_get-map}
use Rattle.script.specs.Records.{library_view}
use Rattle.execlib.specs.Libraries.{description_of}
use Rattle.execheap.specs.Numbered.{shown_library}
use Rattle.execheap.proofs.{Alike.same_more, Entries.some_same}
use Rattle.execheap.proofs.table.are_libraries.Goals as goal

pub loop-i-preserved : goal.loop-i-preserved
loop-i-preserved c =
    let known = c.args.known.now in
    let file = c.args.libraries.now in
    let i = c.loop-i.i in
    let within : i < length known = omega (arith, c.loop-i-test.true, c.if-known-libraries.false) in
    let one = slice_get_read known (length known) i c.index-known-i.result refl within c.index-known-i.is in
    let other = slice_get_read file (length file) i c.index-libraries-i.result refl c.loop-i-test.true c.index-libraries-i.is in
    same_more (map shown_library (map description_of known)) (map library_view file) i c.loop-i.invariant
    (slice_get-map shown_library (map description_of known) i ∙ ap (option_map shown_library) (slice_get-map description_of known i ∙ ap (option_map description_of) one)
    ∙ ap Some (c.is_library.ensures.0 c.if-not-is_library.false) ∙ ap (option_map library_view) (sym other) ∙ sym (slice_get-map library_view file i))

-- one that is not that one is not the same
pub returns-then-not-is_library : goal.returns-then-not-is_library
returns-then-not-is_library c = (
  λ e. cc,
  λ same.
      let known = c.args.known.now in
      let file = c.args.libraries.now in
      let i = c.loop-i.i in
      let within : i < length known = omega (arith, c.loop-i-test.true, c.if-known-libraries.false) in
      let one = slice_get_read known (length known) i c.index-known-i.result refl within c.index-known-i.is in
      let other = slice_get_read file (length file) i c.index-libraries-i.result refl c.loop-i-test.true c.index-libraries-i.is in
      let bad : true ≡ false = sym (c.is_library.ensures.1 (some_same
      (sym (slice_get-map shown_library (map description_of known) i ∙ ap (option_map shown_library) (slice_get-map description_of known i ∙ ap (option_map description_of) one))
      ∙ ap (λ xs. slice_get xs i) same ∙ slice_get-map library_view file i ∙ ap (option_map library_view) other))) ∙ c.if-not-is_library.true in cc,
)
