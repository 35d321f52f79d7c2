-- The chain of a source that the interrupts keep is that of the abstract machine.
use Rattle.std.proofs.Common.{◌≡◌, ℕ, Bool, cond, List, [], ◌∷◌, length, map, get_or, refl, ap, sym, ◌∙◌, ℤ, filter}
use Rattle.std.proofs.lemmas.List.{length-map}
use Rattle.std.proofs.Math.ListN.{get_or-map as default_map}
use Rattle.std.specs.List.{range_with_len}
use Rattle.execlist.specs.{Order.order, Disciplines.pri_at}
use Rattle.script.specs.File.{ServerData}
use Rattle.softint.specs.{declared.interrupt.Server.Server, declared.source.Source.Source, declared.source.Source.TheVariants.Ports, Interrupts.Interrupts, Interrupts.chain, Interrupts.serves, Sources.is_source}
use Rattle.execmodel.specs.{State.Bodies, Interrupts.chain_of, Interrupts.no_server, Interrupts.server_pri, Interrupts.servers_for}
use Rattle.execsim.specs.Views.{IsFor, interrupting}
use Rattle.execsim.proofs.Calling.{map-map_as}
use Rattle.execmodel.proofs.Chains.{chain_is_order}

filter_same : (test other : ℕ → Bool) → ((k : ℕ) → test k ≡ other k) → (xs : List ℕ) → filter test xs ≡ filter other xs
filter_same test other same [] = refl
filter_same test other same (x ∷ xs) =
    ap (λ (b : Bool). cond b (x ∷ filter test xs) (filter test xs)) (same x) ∙ ap (λ (l : List ℕ). cond (other x) (x ∷ l) l) (filter_same test other same xs)

-- the source of a server by its number
source_at : (servers : List ServerData) (k : ℕ) → get_or (map (λ (v : Server). v.source) (map interrupting servers)) k Ports ≡ (get_or servers k no_server).source
source_at servers k =
    ap (λ (l : List Source). get_or l k Ports) (sym (map-map_as (λ (v : Server). v.source) interrupting servers))
    ∙ default_map (λ (s : ServerData). s.source) servers k no_server

chain_shown : (asks : Source) (servers : List ServerData) → chain asks (map interrupting servers) ≡ order (server_pri servers) (servers_for asks servers)
chain_shown asks servers =
    ap (λ (pris : List ℤ). order (pri_at pris) (filter (serves asks (map interrupting servers)) (range_with_len 0 (length (map interrupting servers)))))
    (sym (map-map_as (λ (v : Server). v.pri) interrupting servers))
    ∙ ap (λ (n : ℕ). order (server_pri servers) (filter (serves asks (map interrupting servers)) (range_with_len 0 n))) (length-map servers interrupting)
    ∙ ap (order (server_pri servers)) (filter_same (serves asks (map interrupting servers))
    (λ k. is_source (get_or servers k no_server).source asks)
    (λ k. ap (λ (source : Source). is_source source asks) (source_at servers k)) (range_with_len 0 (length servers)))

pub chain_same : (asks : Source) (m : Interrupts) (bodies : Bodies) → IsFor bodies m → chain asks m.servers ≡ chain_of asks bodies.servers
chain_same asks m bodies of = ap (chain asks) of.servers ∙ chain_shown asks bodies.servers ∙ sym (chain_is_order asks bodies.servers)
