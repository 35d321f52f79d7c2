-- What is left stays linked to what lives.
use Rattle.std.proofs.Common.{◌≡◌, ◌∙◌, List, Option, ap, Some, None, length, slice_set, length-set, ℕ, MatchOption}
use Rattle.msgport.specs.Ports.{KeepsPorts, MessagePorts}
use Rattle.msgport.proofs.Linking.{taken_held}
use Rattle.msgport.proofs.ports.Ports.get.Goals as goal

-- the first message is taken out, if there is one
taken_if : {lists : ℕ} {listings : List (Option ℕ)} {stores : ℕ} {holdings : List (Option ℕ)} {s : MessagePorts} (held : KeepsPorts lists listings stores holdings s)
    (o : Option ℕ) (queues : List (List ℕ)) (places : List (Option ℕ)) → length queues ≡ length s.queues
    → MatchOption o (places ≡ s.places) (λ n. places ≡ slice_set s.places n None) → KeepsPorts lists listings stores holdings (record s { queues = queues; places = places })
taken_if {lists} {listings} {stores} {holdings} {s} held None queues places each same = rw same (record {
  one_list = held.one_list;
  one_store = held.one_store;
  each_queue = each ∙ held.each_queue;
  each_listing = held.each_listing;
  each_place = held.each_place;
  each_holding = held.each_holding;
  apart = held.apart;
  live_held = held.live_held;
  live_message = held.live_message;
  live_port = held.live_port;
  live_listed = held.live_listed;
})
taken_if held (Some n) queues places each set = rw set (taken_held held n queues each)

pub invariant_of-self : goal.invariant_of-self
invariant_of-self g c = taken_if c.self.invariant c.rem_head.result (g.S.ListSpace.sequences c.rem_head.new.self) (g.S.ListSpace.homes c.rem_head.new.self)
    (ap length c.rem_head.ensures.taken ∙ length-set _ _ _) c.rem_head.ensures.homes
