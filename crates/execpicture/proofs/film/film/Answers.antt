-- The proof of `film`: a booted machine has time for the events that a text may hold.
use Rattle.execsim.proofs.Clock.{time_for_fewer}
use Rattle.execpicture.proofs.film.film.Goals as goal

pub film_on-requires-clause-time : goal.film_on-requires-clause-time
film_on-requires-clause-time g c = rw c.list.ensures.events (time_for_fewer _ 1000000 c.in-Ok.machine.seen c.list.ensures.within.ticks c.in-Ok.ensures.time)
