-- `into_places` makes a row of empty places of a block. Assumes `Logic`.
use Rattle.std.proofs.Common.{◌≡◌, ℕ, ◌*◌, ◌+◌, ◌-◌, ◌^◌, ◌<◌, List, [], ◌∷◌, ◌++◌, refl, sym, ap, arith, ◌∙◌, w64, Bool, false}
use mir.Val.{Val, WT, vint}
use base.Fraction.{full_share}
use base.Logic.{SProp, emp, id⊢, never}
use base.Fml.{froom, flft}
use lib.ListN.{length, replicate, length-replicate}
use prog.Wp.{WpFn}
use contract.BorrowLft.{⊑_static}
use contract.Monad.{fact, fact_i}
use contract.Running.{tables}
use types.Kit.{rewrite, flt_l, ‵, raw, ◌⊛◌, some, given, later, prop, at_ret, ◌$◌, ◌∵◌, !, qed, by, move, drop, keep, use0, use1, use2, split, learn, pick, regoal, fsplit, fjoin, await}
use types.Part.{whole, sub}
use types.Run.{stop, fld, of_opd, no_more, and_then, first, blocks, exec, returns, enter}
use types.ByLocal.{alloc_all, pass_all, free_all, look_at, get, get_in, is, sets, lands_last, env}
use denote.RattleType.{owns}
use denote.RawPtr.{Ptr, block_ptr, null_ptr, in_a_block}
use denote.Signature.{types_at}
use denote.Steps.{nothing, heard}
use denote.Triple.Call.{calls_at_last}
use denote.Triple.Entry.{alive}
use denote.Triple.Table.{framed}
use denote.Triple.Walked.{Stays, stay_dropped, walk_of, Goes-dropped}
use Rattle.std.proofs.{VecSteps.Shapes.after, alloc.Calls.Goes-blank, raw_atomic.Walks.proved_at, raw_atomic.Walks.leaves}
use Rattle.core.specs.Mem.Slots.{slots_ptr, slots_len}
use Rattle.core.proofs.slots.Places.{of_room}
use Rattle.core.proofs.slots.Opens.{row_val}
use Rattle.core.proofs.slots.Slots.from_raw_parts.Met as callee
use Rattle.execlist.specs.{Ownership.block_type, Ownership.block_own, contracts.block.Block.the_row as R}
use Rattle.execlist.proofs.{Values.slot_at, Values.base_val, Values.base_told, Memory.cells_room, Rows.Row, Rows.all as places, Rows.row_Typed, Rows.From, Rows.at_from, Rows.Made, Rows.from_goes, Rows.from_gives, Cells.E, block.Block.into_places.Statement.statement}
use Rattle.execlist.specs.contracts.block.Block.into_places as f
use Rattle.execlist.proofs.block.Block.into_places.Code as code

pub into_places_spec : {M : Type 1} → statement M
into_places_spec 𝓤 𝓛 𝓜 𝓡 wired =
    let H = 𝓛.H in let 𝓣 = tables 𝓤 H 𝓜 𝓡 𝓡.env in let En = f.ended in let fn = code.function in let c = f.clauses 𝓛 𝓜.mem 𝓡.returns in
    let met = callee.met 𝓤 𝓛 𝓜 𝓡 (code.calls-core::slots::Slots::from_raw_parts 𝓡.env wired) E.row E.laws in
    let hs : Stays En.signature.params En.kept = (stay_dropped (slot_at 0 En.signature.params) En.kept.0, (stay_dropped (slot_at 1 En.signature.params) En.kept.1.0, tt)) in
    proved_at 𝓛 En hs c 𝓜 𝓡 (Goes-blank 𝓛 0 (slot_at 0 En.signature.params) En.kept.0 (λ κs x w. tt), (Goes-dropped 𝓛 0 (slot_at 1 En.signature.params) En.kept.1.0 (λ κs x w. refl), tt)) f.Key.name fn (code.unfolded 𝓤 H 𝓜 𝓡 wired) (λ z are.
    let x : R.Denot = z.0.3.0 in let k : ℕ = z.0.3.1.0 in let vss = z.0.4 in let ls = x.links in let all_in = x.within in
    let told = base_told x.base vss.0 are.0.0 in let fk : k < 2 ^ 64 = are.1.0.1 in
    let Post : Val → SProp 𝓤 = (walk_of 𝓛 En hs c).post z in
    let Asked : Type 0 = k ≡ x.capacity in
    qed 𝓛 ((raw (alive 𝓛 En.signature z.0.0 z.0.1) ⊛ ‵ (owns (types_at En.signature.params z.0.0) z.0.3 vss)) ∷ raw (fact 𝓤 Asked) ∷ []) ∵
    move ! (1 ∷ []) $ heard ! Asked (λ asked. split ! $ move ! (1 ∷ []) $ fsplit ! $ fsplit ! $ drop ! $
    rewrite ! 0 (λ (u : ℕ). ‵ (block_own x.base u ls)) (sym asked) refl $ in_a_block ! x.base (λ p. block_own p k ls) (id⊢ 𝓤 (never 𝓤)) (λ b o at. fsplit ! $ flt_l ! (λ fit. fsplit ! $
    let full : length ls + (k - length ls) ≡ k = omega (arith, all_in, asked) in
    use2 𝓛 (‵ (froom (block_type (length ls + (k - length ls))) b o)) (cells_room 𝓛 b o 0 ls o (length ls * 24 + o) (k - length ls) refl) $ rewrite ! 0 (λ (u : ℕ). ‵ (froom (block_type u) b o)) full refl $
    keep ! (0 ∷ 2 ∷ []) $
    -- [the room; the tokens]
    let d : E.row.Denot = record { next = null_ptr; prev = null_ptr; number = 0; home = 0 } in let xs : List E.row.Denot = replicate k d in let fs : List Bool = replicate (length xs) false in
    let lx : k ≡ length xs = sym (length-replicate k d) in let lf : k ≡ length fs = lx ∙ sym (length-replicate (length xs) false) in
    let small : k * 24 < 2 ^ 63 = omega (arith, fit) in
    rewrite ! 0 (λ (u : ℕ). ‵ (froom (block_type u) b o)) lx refl $ use1 𝓛 (‵ (places E b o xs fs)) (of_room E 𝓛 b xs o) $
    regoal ! (λ (us : List Val). prop (WpFn 𝓤 H 𝓣.C 𝓣.Λ fn us Post)) (λ i. (told ∙ ap (λ (p : Ptr). base_val p ∷ []) at) i ++ (are.1.0.0 i ++ [])) refl $
    enter ! 𝓣.C 𝓣.Λ fn (base_val (block_ptr b o) ∷ vint w64 k ∷ []) Post $ alloc_all ! (λ l. pass_all ! refl ((tt, (tt, tt)), ((tt, record { fits = fk }), tt)) $ let Ev = env fn.locals l in
    let y = at_from E 𝓛 𝓜.mem 𝓡.returns [] full_share b o k xs fs in let words : WT (row_val b o k) = (tt, (record { fits = fk }, tt)) in
    sets ! (of_opd ! (get_in ! (fld ! refl (stop !)) (sub ! 0 refl (whole !)))) refl (tt, tt) $ first ! $ blocks ! $
    use0 𝓛 (‵ (flft [] full_share)) (𝓛.lfts.lft-nil full_share) $ move ! (1 ∷ 0 ∷ []) $
    use2 𝓛 (raw ((From E 𝓛 𝓜.mem 𝓡.returns).pre y)) (from_goes E 𝓛 𝓜.mem 𝓡.returns [] full_share b o k xs fs (⊑_static []) lx lf fk small) $
    calls_at_last ! (framed 𝓤 H 𝓜 𝓣) (From E 𝓛 𝓜.mem 𝓡.returns) met y (and_then ! (get ! refl) (and_then ! (get ! refl) (no_more !))) (λ v.
    use1 𝓛 (later (some (λ (r : (Row E).Denot). given ((v ≡ row_val b o k) × Made E 𝓛 𝓜.mem 𝓡.returns [] full_share b o k xs fs r) (‵ ((Row E).own_val r (row_val b o k ∷ [])) ⊛ ‵ (flft [] full_share)))))
    (from_gives E 𝓛 𝓜.mem 𝓡.returns [] full_share b o k xs fs v) $ await ! tt $ pick ! (λ r. learn ! (λ got. split ! $ let made = got.1 in
    let Told : Type 0 = (slots_ptr r ≡ x.base) × (slots_len r ≡ k) in
    lands_last ! refl (row_Typed E v b o k got.0 fk) $ exec ! 𝓣.C 𝓣.Λ Ev (after 2 fn.body) (at_ret Ev Post) $ sets ! (is ! (of_opd ! (get ! refl)) got.0) refl (tt, words) $
    use0 𝓛 (raw (fact 𝓤 Told)) (fact_i 𝓤 Told (emp 𝓤) (made.0 ∙ sym at, made.1)) $ nothing ! $ nothing ! $ fjoin ! $ nothing ! $ fjoin ! $
    returns ! (look_at ! 0 refl) $ free_all ! refl $ keep ! (4 ∷ 0 ∷ 2 ∷ 1 ∷ []) $ by ! (leaves 𝓛 En hs c z (row_val b o k) r (tt, (tt, tt)) (tt, (tt, tt)))))))))))
