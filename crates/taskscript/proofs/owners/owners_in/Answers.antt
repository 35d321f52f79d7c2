-- The proof of `owners_in`: the second pass.
use Rattle.std.proofs.Common.{◌≡◌, ℕ, ◌∙◌, ◌++◌, Bool, true, false, List, [], length, take, sym, ap, arith}
use Rattle.std.proofs.lemmas.Result.{err_from_is_err_and}
use Rattle.toml.specs.Data.{Items}
use Rattle.toml.specs.View.{table_view, items_view}
use Rattle.execlist.specs.Order.{first}
use Rattle.taskscript.specs.declared.place.Owner.TheVariants.{Softint, Server, Task}
use Rattle.script.specs.Names.{texts}
use Rattle.taskscript.specs.{File.item_names, File.softints_in, File.servers_in, File.tasks_in, File.setting_of, File.bodies_faults, File.shared_after_bodies, File.with_bodies, File.shared_after_softints, File.shared_after_servers, File.softint_of, File.server_of, File.task_of, Interrupting.Setting, Listings.owner_listing, Records.softint_head_view, Records.softint_head_of}
use Rattle.taskscript.proofs.{Firsts.first_some, Firsts.skip, Firsts.both, Listings.listing_is, OwnerTurns.front_names, OwnerTurns.front_fits, OwnerTurns.of_three}
use Rattle.taskscript.proofs.owners.owners_in.Goals as goal

abbrev setting : Bool → List (List ℕ) → Setting
setting of_interrupt softints = record { of_interrupt = of_interrupt; softints = softints }

abbrev after : Setting → List (List ℕ) → Items → List (List ℕ)
after s shared ds = shared_after_bodies shared ds

pub front-softints-requires : goal.front-softints-requires
front-softints-requires c =
    let t = table_view c.args.table.now in
    let heads = c.args.heads.now in
    let fits = front_fits softint_head_view softint_head_of heads.softints.items (softints_in t) heads.names.items (item_names (servers_in t)) (item_names (tasks_in t)) c.requires.softints c.requires.names in
    omega (arith, fits, ap length c.deref.ensures.value)

pub returns-in_err-softints : goal.returns-in_err-softints
returns-in_err-softints c =
    let p = err_from_is_err_and c.from_residual.result c.from_residual.ensures.1 in
    let f = c.in_err-softints.field-0.0 in
    let t = table_view c.args.table.now in
    let heads = c.args.heads.now in
    let count : c.len.result ≡ length heads.softints.items = omega arith in
    let known : texts c.front-softints.result.now ≡ item_names (softints_in t) =
    ap texts (c.front-softints.ensures ∙ ap (take c.len.result) c.deref.ensures.value ∙ ap (λ (k : ℕ). take k heads.names.items) count)
    ∙ front_names softint_head_view softint_head_of heads.softints.items (softints_in t) heads.names.items (item_names (servers_in t)) (item_names (tasks_in t)) c.requires.softints c.requires.names in
    let interrupts : setting true (texts c.front-softints.result.now) ≡ setting_of true t = ap (setting true) known in
    let others : setting false (texts c.front-softints.result.now) ≡ setting_of false t = ap (setting false) known in
    let start : texts c.new-shared.result.keys ≡ [] = ap texts c.new-shared.ensures.empty in
    let softint_bodies = bodies_faults Softint 0 (setting_of true t) [] (softints_in t) in
    let server_bodies = bodies_faults Server 0 (setting_of true t) (shared_after_softints t) (servers_in t) in
    let task_bodies = bodies_faults Task 0 (setting_of false t) (shared_after_servers t) (tasks_in t) in
    let softints : bodies_faults Softint 0 (setting true (texts c.front-softints.result.now)) (texts c.new-shared.result.keys) (items_view c.items_at.result.now) ≡ softint_bodies = of_three (bodies_faults Softint 0) _ _ _ _ _ _ interrupts start c.items_at.ensures in
    rw (p.1, p.2) (λ ne. first_some softint_bodies (server_bodies ++ task_bodies) f (sym (ap first softints) ∙ c.in_err-softints.ensures.judged ne))

pub returns-in_err-servers : goal.returns-in_err-servers
returns-in_err-servers c =
    let p = err_from_is_err_and c.from_residual-in_err-servers.result c.from_residual-in_err-servers.ensures.1 in
    let f = c.in_err-servers.field-0.0 in
    let t = table_view c.args.table.now in
    let heads = c.args.heads.now in
    let count : c.len.result ≡ length heads.softints.items = omega arith in
    let known : texts c.front-softints.result.now ≡ item_names (softints_in t) =
    ap texts (c.front-softints.ensures ∙ ap (take c.len.result) c.deref.ensures.value ∙ ap (λ (k : ℕ). take k heads.names.items) count)
    ∙ front_names softint_head_view softint_head_of heads.softints.items (softints_in t) heads.names.items (item_names (servers_in t)) (item_names (tasks_in t)) c.requires.softints c.requires.names in
    let interrupts : setting true (texts c.front-softints.result.now) ≡ setting_of true t = ap (setting true) known in
    let others : setting false (texts c.front-softints.result.now) ≡ setting_of false t = ap (setting false) known in
    let start : texts c.new-shared.result.keys ≡ [] = ap texts c.new-shared.ensures.empty in
    let softint_bodies = bodies_faults Softint 0 (setting_of true t) [] (softints_in t) in
    let server_bodies = bodies_faults Server 0 (setting_of true t) (shared_after_softints t) (servers_in t) in
    let task_bodies = bodies_faults Task 0 (setting_of false t) (shared_after_servers t) (tasks_in t) in
    let softints : bodies_faults Softint 0 (setting true (texts c.front-softints.result.now)) (texts c.new-shared.result.keys) (items_view c.items_at.result.now) ≡ softint_bodies = of_three (bodies_faults Softint 0) _ _ _ _ _ _ interrupts start c.items_at.ensures in
    let after_softints : texts c.records_of.new.shared.keys ≡ shared_after_softints t = c.in_ok-softints.ensures.shared ∙ of_three after _ _ _ _ _ _ interrupts start c.items_at.ensures in
    let servers : bodies_faults Server 0 (setting true (texts c.front-softints.result.now)) (texts c.records_of.new.shared.keys) (items_view c.items_at-2.result.now) ≡ server_bodies = of_three (bodies_faults Server 0) _ _ _ _ _ _ interrupts after_softints c.items_at-2.ensures in
    rw (p.1, p.2) (skip softint_bodies (server_bodies ++ task_bodies) f (sym (ap first softints) ∙ c.in_ok-softints.ensures.judged.0)
    (λ ne. first_some server_bodies task_bodies f (sym (ap first servers) ∙ c.in_err-servers.ensures.judged ne)))

pub returns-in_err-tasks : goal.returns-in_err-tasks
returns-in_err-tasks c =
    let p = err_from_is_err_and c.from_residual-in_err-tasks.result c.from_residual-in_err-tasks.ensures.1 in
    let f = c.in_err-tasks.field-0.0 in
    let t = table_view c.args.table.now in
    let heads = c.args.heads.now in
    let count : c.len.result ≡ length heads.softints.items = omega arith in
    let known : texts c.front-softints.result.now ≡ item_names (softints_in t) =
    ap texts (c.front-softints.ensures ∙ ap (take c.len.result) c.deref.ensures.value ∙ ap (λ (k : ℕ). take k heads.names.items) count)
    ∙ front_names softint_head_view softint_head_of heads.softints.items (softints_in t) heads.names.items (item_names (servers_in t)) (item_names (tasks_in t)) c.requires.softints c.requires.names in
    let interrupts : setting true (texts c.front-softints.result.now) ≡ setting_of true t = ap (setting true) known in
    let others : setting false (texts c.front-softints.result.now) ≡ setting_of false t = ap (setting false) known in
    let start : texts c.new-shared.result.keys ≡ [] = ap texts c.new-shared.ensures.empty in
    let softint_bodies = bodies_faults Softint 0 (setting_of true t) [] (softints_in t) in
    let server_bodies = bodies_faults Server 0 (setting_of true t) (shared_after_softints t) (servers_in t) in
    let task_bodies = bodies_faults Task 0 (setting_of false t) (shared_after_servers t) (tasks_in t) in
    let softints : bodies_faults Softint 0 (setting true (texts c.front-softints.result.now)) (texts c.new-shared.result.keys) (items_view c.items_at.result.now) ≡ softint_bodies = of_three (bodies_faults Softint 0) _ _ _ _ _ _ interrupts start c.items_at.ensures in
    let after_softints : texts c.records_of.new.shared.keys ≡ shared_after_softints t = c.in_ok-softints.ensures.shared ∙ of_three after _ _ _ _ _ _ interrupts start c.items_at.ensures in
    let servers : bodies_faults Server 0 (setting true (texts c.front-softints.result.now)) (texts c.records_of.new.shared.keys) (items_view c.items_at-2.result.now) ≡ server_bodies = of_three (bodies_faults Server 0) _ _ _ _ _ _ interrupts after_softints c.items_at-2.ensures in
    let after_servers : texts c.records_of-2.new.shared.keys ≡ shared_after_servers t = c.in_ok-servers.ensures.shared ∙ of_three after _ _ _ _ _ _ interrupts after_softints c.items_at-2.ensures in
    let tasks : bodies_faults Task 0 (setting false (texts c.front-softints.result.now)) (texts c.records_of-2.new.shared.keys) (items_view c.items_at-3.result.now) ≡ task_bodies = of_three (bodies_faults Task 0) _ _ _ _ _ _ others after_servers c.items_at-3.ensures in
    rw (p.1, p.2) (skip softint_bodies (server_bodies ++ task_bodies) f (sym (ap first softints) ∙ c.in_ok-softints.ensures.judged.0)
    (skip server_bodies task_bodies f (sym (ap first servers) ∙ c.in_ok-servers.ensures.judged.0) (λ ne. sym (ap first tasks) ∙ c.in_err-tasks.ensures.judged ne)))

pub returns : goal.returns
returns c =
    let t = table_view c.args.table.now in
    let heads = c.args.heads.now in
    let count : c.len.result ≡ length heads.softints.items = omega arith in
    let known : texts c.front-softints.result.now ≡ item_names (softints_in t) =
    ap texts (c.front-softints.ensures ∙ ap (take c.len.result) c.deref.ensures.value ∙ ap (λ (k : ℕ). take k heads.names.items) count)
    ∙ front_names softint_head_view softint_head_of heads.softints.items (softints_in t) heads.names.items (item_names (servers_in t)) (item_names (tasks_in t)) c.requires.softints c.requires.names in
    let interrupts : setting true (texts c.front-softints.result.now) ≡ setting_of true t = ap (setting true) known in
    let others : setting false (texts c.front-softints.result.now) ≡ setting_of false t = ap (setting false) known in
    let start : texts c.new-shared.result.keys ≡ [] = ap texts c.new-shared.ensures.empty in
    let softint_bodies = bodies_faults Softint 0 (setting_of true t) [] (softints_in t) in
    let server_bodies = bodies_faults Server 0 (setting_of true t) (shared_after_softints t) (servers_in t) in
    let task_bodies = bodies_faults Task 0 (setting_of false t) (shared_after_servers t) (tasks_in t) in
    let softints : bodies_faults Softint 0 (setting true (texts c.front-softints.result.now)) (texts c.new-shared.result.keys) (items_view c.items_at.result.now) ≡ softint_bodies = of_three (bodies_faults Softint 0) _ _ _ _ _ _ interrupts start c.items_at.ensures in
    let after_softints : texts c.records_of.new.shared.keys ≡ shared_after_softints t = c.in_ok-softints.ensures.shared ∙ of_three after _ _ _ _ _ _ interrupts start c.items_at.ensures in
    let servers : bodies_faults Server 0 (setting true (texts c.front-softints.result.now)) (texts c.records_of.new.shared.keys) (items_view c.items_at-2.result.now) ≡ server_bodies = of_three (bodies_faults Server 0) _ _ _ _ _ _ interrupts after_softints c.items_at-2.ensures in
    let after_servers : texts c.records_of-2.new.shared.keys ≡ shared_after_servers t = c.in_ok-servers.ensures.shared ∙ of_three after _ _ _ _ _ _ interrupts after_softints c.items_at-2.ensures in
    let tasks : bodies_faults Task 0 (setting false (texts c.front-softints.result.now)) (texts c.records_of-2.new.shared.keys) (items_view c.items_at-3.result.now) ≡ task_bodies = of_three (bodies_faults Task 0) _ _ _ _ _ _ others after_servers c.items_at-3.ensures in (
      both softint_bodies (server_bodies ++ task_bodies) (sym (ap first softints) ∙ c.in_ok-softints.ensures.judged.0)
          (both server_bodies task_bodies (sym (ap first servers) ∙ c.in_ok-servers.ensures.judged.0) (sym (ap first tasks) ∙ c.in_ok-tasks.ensures.judged.0)),
      record {
        softints = c.in_ok-softints.ensures.judged.1 ∙ of_three (λ s shared ds. with_bodies softint_of shared ds) _ _ _ _ _ _ interrupts start c.items_at.ensures;
        servers = c.in_ok-servers.ensures.judged.1 ∙ of_three (λ s shared ds. with_bodies server_of shared ds) _ _ _ _ _ _ interrupts after_softints c.items_at-2.ensures;
        tasks = c.in_ok-tasks.ensures.judged.1 ∙ of_three (λ s shared ds. with_bodies task_of shared ds) _ _ _ _ _ _ others after_servers c.items_at-3.ensures;
        listing = listing_is c.in_ok-softints.softints.1.items c.in_ok-servers.servers.1.items c.in_ok-tasks.tasks.1.items (texts c.records_of-3.new.shared.keys) t
            (c.in_ok-softints.ensures.listings ∙ of_three (λ s shared ds. with_bodies owner_listing shared ds) _ _ _ _ _ _ interrupts start c.items_at.ensures)
            (c.in_ok-servers.ensures.listings ∙ of_three (λ s shared ds. with_bodies owner_listing shared ds) _ _ _ _ _ _ interrupts after_softints c.items_at-2.ensures)
            (c.in_ok-tasks.ensures.listings ∙ of_three (λ s shared ds. with_bodies owner_listing shared ds) _ _ _ _ _ _ others after_servers c.items_at-3.ensures)
            (c.in_ok-tasks.ensures.shared ∙ of_three after _ _ _ _ _ _ others after_servers c.items_at-3.ensures);
      },
    )
