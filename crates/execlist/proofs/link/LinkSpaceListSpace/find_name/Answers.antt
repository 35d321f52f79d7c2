-- The search begins at the first node of the part asked for.
use Rattle.std.proofs.Common.{◌≡◌, ap, sym, ◌∙◌, Some, find}
use Rattle.execlist.specs.{Lists.sequence, Lists.home, Lists.key_at, Lists.part_from, Lists.is_named, Lists.name_is, Lists.ahead, DigestKeys.keys_in, Chains.lists_of, Chains.homes_of}
use Rattle.execlist.proofs.link.LinkSpaceListSpace.find_name.Goals.{in-None, in-Some}
use Rattle.execlist.proofs.Walks.{ahead_first, ahead_after, once_from}
use Rattle.execlist.proofs.link.LinkSpaceListSpace.find_name.Goals as goal

pub returns-clause-value : goal.returns-clause-value
returns-clause-value c =
    let s = c.args.self.now in
    let seq = sequence (lists_of s.block.links s.nodes s.headers) c.args.h in
    let keys = keys_in s.nodes s.keys.items in
    let once = once_from seq (home (homes_of s.block.links s.nodes)) c.args.h (s.stands c.args.h) in
    let asked : ahead c.match-after.from seq ≡ part_from c.args.after seq =
    elim c.match-after.branch [
      | in-None w ↦ ap (λ o. ahead o seq) (w.from-is ∙ w.first-from.ensures.value) ∙ ahead_first seq ∙ ap (λ o. part_from o seq) (sym w.in-None.is)
      | in-Some w ↦
          let own = c.requires.after_in w.in-Some.n w.in-Some.is in
          ap (λ o. ahead o seq) (w.from-is ∙ w.succ-from.ensures.value c.args.h own) ∙ ahead_after w.in-Some.n seq once
          ∙ ap (λ o. part_from o seq) (sym w.in-Some.is)
    ] in
    c.first_sought.ensures.value ∙ ap (λ t. find (λ m. name_is (key_at keys m).name t) (ahead (Some c.in_ok-from.field-0) seq)) c.new.ensures
    ∙ ap (λ o. find (is_named keys c.args.name.now) (ahead o seq)) (sym c.in_ok-from.was) ∙ ap (find (is_named keys c.args.name.now)) asked
