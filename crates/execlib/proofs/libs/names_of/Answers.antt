-- One more node is linked, with the name of its library.
use Rattle.std.proofs.Common.{◌<◌, ◌+◌, length, map, slice_set, take, sym, ◌∙◌, ap, arith, [], ◌∷◌, ◌++◌, Some, length-set}
use Rattle.std.proofs.lemmas.List.{get_or-map, length-map}
use Rattle.execlist.specs.Lists.{blank, home, sequence}
use Rattle.execlist.proofs.PlainLemmas.{one_more}
use Rattle.execlib.specs.Libraries.{no_library, description_of, key_of}
use Rattle.execlib.proofs.Names.{still_nowhere, one_more_key}
use Rattle.execlib.proofs.libs.names_of.Goals as goal

pub loop-i-preserved : goal.loop-i-preserved
loop-i-preserved g c =
    let before = c.loop-i.invariant in
    let i = c.loop-i.i in
    let libraries = c.args.libraries.now in
    let homes = g.S.ListSpace.homes c.loop-i.names in
    let keys = g.S.ListSpace.keys c.loop-i.names in
    let known = map description_of libraries in
    let there = c.loop-i-test.true in
    let described : i < length known = omega (arith, there, length-map libraries description_of) in
    let placed = c.add_tail.ensures.homes ∙ ap (λ h. slice_set h i (Some 0)) c.set_key.ensures.homes in
    record {
      listed = c.add_tail.ensures.placed
          ∙ ap (λ s. slice_set s 0 (sequence s 0 ++ i ∷ [])) (c.set_key.ensures.sequences ∙ before.listed)
          ∙ ap (λ l. l ∷ []) (sym (one_more i));
      count = ap length placed ∙ length-set homes i (Some 0) ∙ before.count;
      nowhere = λ t later. ap (λ h. home h t) placed ∙ still_nowhere homes i before.nowhere t later;
      named = ap (take (i + 1)) (c.add_tail.ensures.keys ∙ c.set_key.ensures.keys)
          ∙ one_more_key keys (map key_of known) i _
          (omega (arith, there, before.count, g.met.S.ListSpace.keyed c.loop-i.names))
          (omega (arith, described, length-map known key_of)) before.named
          (sym (get_or-map key_of known i no_library blank described ∙ ap key_of (get_or-map description_of libraries i c.index-libraries-i.result no_library there)));
    }
