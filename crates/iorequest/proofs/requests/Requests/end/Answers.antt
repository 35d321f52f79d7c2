-- One request fewer is counted for the key of its port.
use Rattle.std.proofs.Common.{◌≡◌, ◌∙◌, true, Some, sym, ap, arith, length-set, is_some, ◌-◌}
use Rattle.std.proofs.lemmas.Grind.{get_or_default_zero}
use Rattle.execlist.specs.Pool.{Pooled, slot}
use Rattle.iorequest.specs.{declared.request.Request.Request, Request.idle_request, Request.is_under_way, Requests.request_at}
use Rattle.iorequest.proofs.Counted.{known_number, one_at_least, one_less}
use Rattle.iorequest.proofs.requests.Requests.end.Goals as goal

pub overflow_sub-index_mut : goal.overflow_sub-index_mut
overflow_sub-index_mut c =
    let m = c.self.inside.requests in
    let counts = c.self.inside.counts in
    let some : is_some (slot m.slots c.args.r) ≡ true = ap (λ (x : Pooled Request). is_some (slot x.slots c.args.r)) c.self.view_is ∙ c.requires.live in
    let was = ap (λ (x : Pooled Request). is_under_way (request_at c.args.r x)) c.self.view_is ∙ c.requires.before in
    let port = c.requires.port ∙ ap (λ (x : Pooled Request). (request_at c.args.r x).port) (sym c.self.view_is) in
    let keys = c.len.ensures ∙ counts.ok.0 in
    let within = rw keys at c.key_of-key.ensures.within in
    let least = one_at_least c.self.invariant.1 c.args.r (idle_request 0) (known_number m.slots c.args.r some) c.key_of-key.result
    (rw (keys, port) at c.key_of-key.ensures.value) within some was in
    let now = c.index_mut.ensures.value ∙ get_or_default_zero counts.items c.key_of-key.result c.index_mut.result.now within in
    omega (arith, least, now)

pub invariant_of-self : goal.invariant_of-self
invariant_of-self c =
    let m = c.self.inside.requests in
    let counts = c.self.inside.counts in
    let some : is_some (slot m.slots c.args.r) ≡ true = ap (λ (x : Pooled Request). is_some (slot x.slots c.args.r)) c.self.view_is ∙ c.requires.live in
    let was = ap (λ (x : Pooled Request). is_under_way (request_at c.args.r x)) c.self.view_is ∙ c.requires.before in
    let port = c.requires.port ∙ ap (λ (x : Pooled Request). (request_at c.args.r x).port) (sym c.self.view_is) in
    let keys = c.len.ensures ∙ counts.ok.0 in
    let within = rw keys at c.key_of-key.ensures.within in
    let less = one_less c.self.invariant.1 c.args.r (idle_request 0) (known_number m.slots c.args.r some) c.args.request c.key_of-key.result
    (rw keys at c.key_of-key.ensures.value) within c.requires.after port some was in
    let now = c.index_mut.ensures.value ∙ get_or_default_zero counts.items c.key_of-key.result c.index_mut.result.now within in
    rw (c.set.ensures, now) (c.self.invariant.0 ∙ sym (length-set m.slots c.args.r (Some c.args.request)), less)
