-- One request more is counted for the key of its port.
use Rattle.std.proofs.Common.{◌≡◌, ◌∙◌, true, Some, sym, ap, arith, slice_index_or, is_some, length-set}
use Rattle.std.proofs.lemmas.Grind.{get_or_default_zero}
use Rattle.execlist.specs.Pool.{Pooled, slot}
use Rattle.iorequest.specs.{declared.request.Request.Request, Request.idle_request, Request.is_under_way, Requests.request_at}
use Rattle.iorequest.proofs.Counted.{known_number, one_more_fits, one_more}
use Rattle.iorequest.proofs.requests.Requests.put_under_way.Goals as goal

pub overflow_add-index_mut : goal.overflow_add-index_mut
overflow_add-index_mut c =
    let m = c.self.inside.requests in
    let counts = c.self.inside.counts in
    let some : is_some (slot m.slots c.args.r) ≡ true = ap (λ (x : Pooled Request). is_some (slot x.slots c.args.r)) c.self.view_is ∙ c.requires.live in
    let idle = ap (λ (x : Pooled Request). is_under_way (request_at c.args.r x)) c.self.view_is ∙ c.requires.before in
    let keys = c.len.ensures ∙ counts.ok.0 in
    let at = rw keys at c.key_of-key.ensures.value in
    let within = rw keys at c.key_of-key.ensures.within in
    let now = c.index_mut.ensures.value ∙ get_or_default_zero counts.items c.key_of-key.result c.index_mut.result.now within in
    let key = ap (λ k. slice_index_or counts.items k 0) at in
    let fits = one_more_fits c.self.invariant.1 c.args.r (idle_request 0) (known_number m.slots c.args.r some) c.args.request c.requires.after idle (rw at at within) in
    omega (arith, fits, now, key, c.self.invariant.0, c.self.ranges)

pub invariant_of-self : goal.invariant_of-self
invariant_of-self c =
    let m = c.self.inside.requests in
    let counts = c.self.inside.counts in
    let some : is_some (slot m.slots c.args.r) ≡ true = ap (λ (x : Pooled Request). is_some (slot x.slots c.args.r)) c.self.view_is ∙ c.requires.live in
    let idle = ap (λ (x : Pooled Request). is_under_way (request_at c.args.r x)) c.self.view_is ∙ c.requires.before in
    let keys = c.len.ensures ∙ counts.ok.0 in
    let within = rw keys at c.key_of-key.ensures.within in
    let more = one_more c.self.invariant.1 c.args.r (idle_request 0) (known_number m.slots c.args.r some) c.args.request c.key_of-key.result
    (rw keys at c.key_of-key.ensures.value) within c.requires.after idle in
    let now = c.index_mut.ensures.value ∙ get_or_default_zero counts.items c.key_of-key.result c.index_mut.result.now within in
    rw (c.set.ensures, now) (c.self.invariant.0 ∙ sym (length-set m.slots c.args.r (Some c.args.request)), more)
