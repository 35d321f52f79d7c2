-- A number below those of the requests is a message's, any other a request's.
use Rattle.std.proofs.Common.{◌≡◌, ◌<◌, ◌≤◌, ◌-◌, ap, is_some, sym, ◌∙◌, arith}
use Rattle.execlist.specs.Pool.{slot}
use Rattle.execheap.specs.declared.tag.Kind.TheVariants as variant
use Rattle.execheap.specs.Numbered.{Numbered, places}
use Rattle.execheap.proofs.MessagePlaces.{place_below, place_from}
use Rattle.execheap.proofs.objects.Objects.address_of_message.Goals as goal

pub address_of-requires : goal.address_of-requires
address_of-requires g c =
    let s = c.args.self.now in
    let pool : c.pool-pool.result ≡ s.table.pool = c.pool-pool.ensures ∙ ap (λ (x : Numbered). x.table.pool) c.self.view_is in
    let below : c.args.m < s.table.pool = omega (arith, pool, c.if-m-pool.true) in
    ap is_some (sym (place_below c.facts.ensures.sound.table c.args.m below)) ∙ c.requires

pub address_of-requires-else-m-pool : goal.address_of-requires-else-m-pool
address_of-requires-else-m-pool g c =
    let s = c.args.self.now in
    let pool : c.pool-pool.result ≡ s.table.pool = c.pool-pool.ensures ∙ ap (λ (x : Numbered). x.table.pool) c.self.view_is in
    let from : s.table.pool ≤ c.args.m = omega (arith, pool, c.if-m-pool.false) in
    ap (λ n. is_some (slot (places variant.Request s) (c.args.m - n))) pool
    ∙ ap is_some (sym (place_from c.facts.ensures.sound.table c.args.m from)) ∙ c.requires

pub returns-else-m-pool : goal.returns-else-m-pool
returns-else-m-pool g c =
    let s = c.args.self.now in
    let pool : c.pool-pool.result ≡ s.table.pool = c.pool-pool.ensures ∙ ap (λ (x : Numbered). x.table.pool) c.self.view_is in
    let from : s.table.pool ≤ c.args.m = omega (arith, pool, c.if-m-pool.false) in
    place_from c.facts.ensures.sound.table c.args.m from
    ∙ ap (λ n. slot (places variant.Request s) (c.args.m - n)) (sym pool) ∙ c.address_of-else-m-pool.ensures
