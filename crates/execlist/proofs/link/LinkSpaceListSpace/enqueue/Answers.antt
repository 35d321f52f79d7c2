-- The node goes before the first of lower priority, or last if there is none.
use Rattle.std.proofs.Common.{◌≡◌, ℕ, Bool, Some, SFits, w8, ap, sym, ◌∙◌, rules, find, slice_set, int_lt}
use Rattle.std.specs.Option.{ForSome}
use Rattle.std.proofs.lemmas.Int.{to_z-of_z}
use Rattle.execlist.specs.{Order.is_lower, Lists.sequence, Lists.home, Lists.key_at, Lists.pri_of, Lists.ahead, DigestKeys.keys_in, Chains.lists_of, Chains.homes_of}
use Rattle.execlist.proofs.link.LinkSpaceListSpace.enqueue.Goals.{in-None, in-Some, in-Some-lower, in-None-lower}
use Rattle.execlist.proofs.Walks.{ahead_first, once_from, in_sequence, arrives_at, arrives_at_end}
use Rattle.execlist.proofs.link.LinkSpaceListSpace.enqueue.Goals as goal

pub returns-clause-placed : goal.returns-clause-placed
returns-clause-placed c =
    let s = c.args.self.now in
    let all = lists_of s.block.links s.nodes s.headers in
    let seq = sequence all c.args.h in
    let homes = homes_of s.block.links s.nodes in
    let keys = keys_in s.nodes s.keys.items in
    let key = pri_of keys in
    let lower : ℕ → Bool = (λ m. is_lower key m c.args.n) in
    let once = once_from seq (home homes) c.args.h (s.stands c.args.h) in
    let value : c.match-first.lower ≡ find lower seq =
    elim c.match-first.branch [
      | in-None w ↦ w.lower-is ∙ ap (λ o. find lower (ahead o seq)) (sym w.in-None.is ∙ c.first.ensures.value) ∙ ap (find lower) (ahead_first seq)
      | in-Some w ↦
          let pri = w.pri.type_inv in
          let fits : SFits w8 w.pri.result = search rules in
          w.lower-is ∙ w.first_sought-lower.ensures.value
          ∙ ap (λ p. find (λ m. int_lt (key_at keys m).pri p) (ahead (Some w.in-Some.front) seq)) (to_z-of_z w8 w.pri.result fits ∙ w.pri.ensures)
          ∙ ap (λ o. find lower (ahead o seq)) (sym w.in-Some.is ∙ c.first.ensures.value) ∙ ap (find lower) (ahead_first seq)
    ] in
    let at_home : ForSome c.match-first.lower (λ m. home homes m ≡ Some c.args.h) =
    (λ m e. elim c.match-first.branch [
      | in-None w ↦ let none = sym w.lower-is ∙ e in cc
      | in-Some w ↦ rw (sym w.lower-is ∙ e) at w.first_sought-lower.ensures.home
    ]) in
    c.insert.ensures.placed ∙ ap (slice_set all c.args.h) (elim c.match-lower.branch [
      | in-Some-lower w ↦
          let m = w.in-Some-lower.m in
          let own = at_home m w.in-Some-lower.is in
          let inside = in_sequence _ (home homes m) c.args.h (s.stands c.args.h m) own in
          arrives_at key c.args.n m seq once inside (sym value ∙ w.in-Some-lower.is) c.match-lower.after (w.after-is ∙ w.pred-after.ensures.value c.args.h own)
      | in-None-lower w ↦
          arrives_at_end key c.args.n seq once (sym value ∙ w.in-None-lower.is) c.match-lower.after (w.after-is ∙ w.last-after.ensures.value)
    ])
