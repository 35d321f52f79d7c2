-- Each part is freed, and the messages of the requests stay.
use Rattle.std.proofs.Common.{[], map, ap, sym, ◌∙◌, subst}
use Rattle.timerdev.specs.Timing.{new_timer}
use Rattle.msgport.specs.Ports.{all_freed}
use Rattle.execheap.specs.Numbered.{IsKnown, Numbered, shown_library}
use Rattle.execheap.proofs.Freed.{freed_kept, freed_shown, message_there}
use Rattle.execheap.proofs.objects.Objects.reset.Goals as goal

pub reset-requires-3-clause-live : goal.reset-requires-3-clause-live
reset-requires-3-clause-live g c = rw c.pool-pool.ensures (message_there _ (subst IsKnown (sym c.self.view_is) c.facts.ensures).sound.kept)

pub invariant_of-self : goal.invariant_of-self
invariant_of-self g c = freed_kept _ (subst IsKnown (sym c.self.view_is) c.facts.ensures).sound c.args.asks c.args.tick_micros _ (λ i. record {
  table = c.reset.ensures i;
  sequences = c.reset-2.ensures.empty i;
  homes = c.reset-2.ensures.unlinked i;
  keys = c.reset-2.ensures.blank i;
  ports = (c.reset-3.ensures ∙ ap (λ n. all_freed n c.self.inside.ports) c.pool-pool.ensures) i;
  sems = c.reset-4.ensures i;
  requests = c.reset-5.ensures i;
  timing = c.reset-6.ensures i;
  tasks = c.self.inside.tasks;
})

pub returns : goal.returns
returns g c = freed_shown _ (subst IsKnown (sym c.self.view_is) c.facts.ensures).sound c.args.asks c.args.tick_micros _ (λ i. record {
  table = c.reset.ensures i;
  sequences = c.reset-2.ensures.empty i;
  homes = c.reset-2.ensures.unlinked i;
  keys = c.reset-2.ensures.blank i;
  ports = (c.reset-3.ensures ∙ ap (λ n. all_freed n c.self.inside.ports) c.pool-pool.ensures) i;
  sems = c.reset-4.ensures i;
  requests = c.reset-5.ensures i;
  timing = c.reset-6.ensures i;
  tasks = c.self.inside.tasks;
}) ∙ ap (λ (t : Numbered). record {
  regions = t.table.memory.regions;
  libraries = map shown_library t.table.libs.known;
  asks = c.args.asks;
  pool = t.table.pool;
  tasks = t.tasks;
  heap = [];
  public = [];
  timer = new_timer c.args.tick_micros;
}) c.self.view_is
