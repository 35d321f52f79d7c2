-- A closed set has every state: one event after another leads to what was found.
use Rattle.std.proofs.Common.{inl, inr, ◌∙◌, ◌⊎◌, ℕ, List, [], ◌∷◌, ◌++◌, refl, sym, subst, append-nil, append_assoc}
use Rattle.script.specs.{File.MachineData, declared.event.Event.Event}
use Rattle.closure.specs.Closed.{IsKind, AreOf, EndsBy, IsFound, Leads, IsClosed, KeysTell, IsEverything}

module _ {S : Type 0} (machine_of : S → MachineData) (stands : S → List Event → Type 0) (key : S → List ℕ) where
  module _ (machine : MachineData) (kinds : List Event) (keys alerts : List (List ℕ)) (tell : KeysTell machine_of stands key)
      (closed : IsClosed machine_of stands key machine kinds keys alerts) where
    -- from a state of a found key
    next : (list : List Event) (one : Event) → IsKind kinds one → IsFound machine_of stands key machine keys list
        → Leads machine_of stands key machine keys alerts list one
    next list one kind found =
        let at = found.found.1 in
        let goes = closed.goes_on found.found.0 kind.0 one at.within kind.1 kind.2 in
        goes.leads list
        (tell found.walker goes.walker list goes.list (found.of ∙ sym goes.of) (sym at.same ∙ sym goes.is) found.there goes.there)

    -- what one event leads to, and then others
    after : (list : List Event) (one : Event) (rest : List Event)
        → (IsFound machine_of stands key machine keys (list ++ one ∷ [])
        → IsFound machine_of stands key machine keys ((list ++ one ∷ []) ++ rest) ⊎ EndsBy machine alerts ((list ++ one ∷ []) ++ rest))
        → Leads machine_of stands key machine keys alerts list one
        → IsFound machine_of stands key machine keys (list ++ (one ∷ rest)) ⊎ EndsBy machine alerts (list ++ (one ∷ rest))
    after list one rest then (inl found) =
        subst (λ (l : List Event). IsFound machine_of stands key machine keys l ⊎ EndsBy machine alerts l) (append_assoc list (one ∷ []) rest) (then found)
    after list one rest then (inr ends) =
        inr (record { before = list; last = one; after = rest; line = ends.0; is = refl; ends = ends.1; listed = ends.2 })

    more : (list rest : List Event) → AreOf kinds rest → IsFound machine_of stands key machine keys list
        → IsFound machine_of stands key machine keys (list ++ rest) ⊎ EndsBy machine alerts (list ++ rest)
    more list [] are found = inl (subst (λ (l : List Event). IsFound machine_of stands key machine keys l) (sym (append-nil list)) found)
    more list (one ∷ rest) are found =
        after list one rest (λ there. more (list ++ one ∷ []) rest are.1 there) (next list one are.0 found)

    pub everything : IsEverything machine_of stands key machine kinds keys alerts
    everything list are = more [] list are closed.begins
