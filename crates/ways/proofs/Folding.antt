-- What notes ways is after many of them.
use Rattle.std.proofs.Common.{◌≡◌, ◌∙◌, ℕ, ◌+◌, Bool, List, [], ◌∷◌, ap, arith, fold}
use Rattle.script.specs.declared.event.Event.{Event}
use Rattle.ways.specs.{Tables.noted, Tables.number_where, Tables.one_if, Tables.table_of, Tabled.Tabled}

abbrev next : {S : Type 0} → (S → List Event → List ℕ) → (S → List Event → Bool) → Tabled S → List Event → Tabled S
next seen alerted x way = record { shows = x.shows; table = noted x.table (seen x.shows way) way; alerts = x.alerts + one_if (alerted x.shows way) }

pub after_all : {S : Type 0} (seen : S → List Event → List ℕ) (alerted : S → List Event → Bool) (x : Tabled S) (ws : List (List Event))
    → fold (next seen alerted) x ws ≡ record { shows = x.shows; table = table_of (seen x.shows) x.table ws; alerts = x.alerts + number_where (alerted x.shows) ws }
after_all seen alerted x [] = ap (λ n. record { shows = x.shows; table = x.table; alerts = n }) (omega arith)
after_all seen alerted x (w ∷ ws) =
    let y = next seen alerted x w in
    after_all seen alerted y ws
    ∙ ap (λ n. record { shows = x.shows; table = table_of (seen x.shows) y.table ws; alerts = n }) (omega arith)
