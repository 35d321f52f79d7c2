-- The proof of `push_seen`: the last outcome is taken off, and put back with a line more.
use Rattle.std.proofs.Common.{◌≡◌, ◌∙◌, ℕ, List, [], ◌∷◌, ◌++◌, ap, append_assoc, string_bytes}
use Rattle.wayreport.specs.Written.{ended}
use Rattle.wayreport.proofs.Lining.{entry, seen_grown}
use Rattle.wayreport.proofs.reading.push_seen.Goals as goal

pub returns-in_ok-push-in-Some-2 : goal.returns-in_ok-push-in-Some-2
returns-in_ok-push-in-Some-2 c = λ text some is.
    let last = c.in-Some.last in
    let line = c.as_bytes.ensures.value ∙ c.in_ok-seen.ensures text is in
    let seen : c.push.new.self.items ≡ last.seen.items ++ ended text =
    c.in_ok-push-in-Some.ensures.items ∙ (ap (λ (t : List ℕ). t ++ 10 ∷ []) (c.in_ok-extend_from_slice-in-Some.ensures.items ∙ ap (λ (t : List ℕ). last.seen.items ++ t) line) ∙ append_assoc last.seen.items text (10 ∷ [])) in
    seen_grown c.args.found.now.items c.push-in-Some.new.self.items c.pop.new.self.items last _ text c.in-Some.ensures.items c.in_ok-push-in-Some-2.ensures.items
    (ap (λ (s : List ℕ). entry s last.count (string_bytes last.first)) seen)
