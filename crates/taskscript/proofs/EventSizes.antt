-- An event that a line states asks for at least one turn.
use Rattle.std.proofs.Common.{◌≡◌, ℕ, ◌≤◌, Bool, true, false, ◌&&◌, nat_le, codes, if◌then◌else◌, List, [], ◌∷◌, drop, All, Option, Some, None, option_map, option_and_then, refl, arith, option_to_list}
use Rattle.std.proofs.lemmas.{Bool.Decides.nat_tests, List.Elements.All-nil, List.Elements.All-cons, List.Elements.All-append}
use Rattle.script.specs.declared.event.Event.TheVariants.{Run, Tick, Irq}
use Rattle.script.specs.{declared.event.Event.Event, Sources.requested_source_of, Events.turns}
use Rattle.softint.specs.declared.source.Source.{Source}
use Rattle.taskscript.specs.{Numbers.decimal_of, Events.in_turns, Events.turns_of, Events.begins_with, Events.event_of, Events.is_skipped, Events.events_on, Events.events_of}

in_turns_some : (n k : ℕ) → in_turns n ≡ Some k → 1 ≤ k
in_turns_some n k h = by (nat_le 1 n) (nat_le n 1000000) refl h
  where
    by : (above below : Bool) → nat_le 1 n ≡ above → (if above && below then Some n else None) ≡ Some k → 1 ≤ k
    by true true e h = let same : n ≡ k = cc in rw (← same) (grind (arith, nat_tests, e))
    by true false e h = absurd cc
    by false below e h = absurd cc

turns_of_some : (number : Option ℕ) (k : ℕ) → option_and_then in_turns number ≡ Some k → 1 ≤ k
turns_of_some None k h = absurd cc
turns_of_some (Some n) k h = in_turns_some n k h

run_some : (number : Option ℕ) (e : Event) → ((k : ℕ) → number ≡ Some k → 1 ≤ k) → option_map Run number ≡ Some e → 1 ≤ turns e
run_some None e some h = absurd cc
run_some (Some n) e some h = let same : Run n ≡ e = cc in rw (← same) (some n refl)

tick_some : (number : Option ℕ) (e : Event) → ((k : ℕ) → number ≡ Some k → 1 ≤ k) → option_map Tick number ≡ Some e → 1 ≤ turns e
tick_some None e some h = absurd cc
tick_some (Some n) e some h = let same : Tick n ≡ e = cc in rw (← same) (some n refl)

irq_some : (source : Option Source) (e : Event) → option_map Irq source ≡ Some e → 1 ≤ turns e
irq_some None e h = absurd cc
irq_some (Some source) e h = let same : Irq source ≡ e = cc in rw (← same) (omega arith)

stated_some : (line : List ℕ) (e : Event) (runs ticks irqs : Bool)
    → (if runs then option_map Run (turns_of (drop 4 line)) else if ticks then option_map Tick (turns_of (drop 5 line))
    else if irqs then option_map Irq (requested_source_of (drop 4 line)) else None) ≡ Some e → 1 ≤ turns e
stated_some line e true ticks irqs h = run_some (turns_of (drop 4 line)) e (turns_of_some (decimal_of (drop 4 line))) h
stated_some line e false true irqs h = tick_some (turns_of (drop 5 line)) e (turns_of_some (decimal_of (drop 5 line))) h
stated_some line e false false true h = irq_some (requested_source_of (drop 4 line)) e h
stated_some line e false false false h = absurd cc

event_of_some : (line : List ℕ) (e : Event) → event_of line ≡ Some e → 1 ≤ turns e
unfolding event_of
event_of_some line e h =
    stated_some line e (begins_with (codes "run ") line) (begins_with (codes "tick ") line) (begins_with (codes "irq ") line) h

-- ---- all events of some lines

listed_some : (stated : Option Event) → ((e : Event) → stated ≡ Some e → 1 ≤ turns e) → All (λ e. 1 ≤ turns e) (option_to_list stated)
listed_some None some = All-nil (λ e. 1 ≤ turns e)
listed_some (Some e) some = All-cons (λ e. 1 ≤ turns e) e [] (some e refl) (All-nil (λ e. 1 ≤ turns e))

on_line_some : (line : List ℕ) (skipped : Bool) → All (λ e. 1 ≤ turns e) (if skipped then [] else option_to_list (event_of line))
on_line_some line true = All-nil (λ e. 1 ≤ turns e)
on_line_some line false = listed_some (event_of line) (event_of_some line)

pub events_some : (lines : List (List ℕ)) → All (λ e. 1 ≤ turns e) (events_of lines)
events_some [] = All-nil (λ e. 1 ≤ turns e)
events_some (line ∷ lines) = All-append (λ e. 1 ≤ turns e) (events_on line) (events_of lines) (on_line_some line (is_skipped line)) (events_some lines)
