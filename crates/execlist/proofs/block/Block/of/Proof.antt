-- `of` makes a block of a row of places, whatever is in them. Assumes `Logic`.
use Rattle.std.proofs.Common.{◌≡◌, ℕ, ◌*◌, ◌+◌, ◌-◌, ◌^◌, ◌<◌, List, [], ◌∷◌, ◌++◌, refl, sym, subst, arith, ◌∙◌, length}
use mir.Val.{Val, WT}
use base.Fraction.{full_share}
use base.Logic.{SProp, ent, emp, id⊢}
use base.Fml.{froom, flft}
use prog.Wp.{WpFn}
use contract.BorrowLft.{⊑_static}
use contract.Monad.{fact, fact_i}
use contract.Running.{tables}
use types.Kit.{rewrite, flt_i, ‵, raw, ◌⊛◌, given, later, at_ret, ◌$◌, ◌∵◌, !, qed, by, move, keep, use0, use1, use2, split, learn, fsplit, fjoin, await, suffices}
use types.Part.{whole, sub, agg}
use types.Run.{stop, fld, of_opd, no_more, and_then, first, blocks, exec, returns, enter}
use types.ByLocal.{alloc_all, pass_all, free_all, look_at, get, get_in, is, sets, lands_last, env}
use denote.RattleType.{owns}
use denote.RawPtr.{Ptr, block_ptr}
use denote.Signature.{types_at}
use denote.Steps.{nothing, heard}
use denote.Triple.Call.{calls_at_last}
use denote.Triple.Entry.{alive}
use denote.Triple.Table.{framed}
use denote.Triple.Walked.{Stays, stay_dropped, walk_of, Goes-dropped}
use Rattle.std.proofs.{VecSteps.Shapes.after, raw_atomic.Walks.proved_at, raw_atomic.Walks.leaves}
use Rattle.core.specs.Mem.Slots.{slots_items, slots_filled, slots_ptr, slots_len, slots_counts}
use Rattle.core.proofs.slots.Places.{to_room}
use Rattle.core.proofs.slots.Opens.{row_val}
use Rattle.core.proofs.slots.Slots.into_raw_parts.Met as callee
use Rattle.execlist.specs.{Links.Link, Ownership.block_type, contracts.block.Block.the_row as R}
use Rattle.execlist.proofs.{Values.slot_at, Values.base_val, Values.base_own, Values.base_made, Rows.Row, Rows.all as places, Rows.parts_typed, Rows.Row-seen, Rows.Into, Rows.at_into, Rows.Into-goes, Rows.Into-gives, Cells.E, block.Block.of.Statement.statement}
use Rattle.execlist.specs.contracts.block.Block.of as f
use Rattle.execlist.proofs.block.Block.of.Code as code

pub of_spec : {M : Type 1} → statement M
of_spec 𝓤 𝓛 𝓜 𝓡 wired =
    let H = 𝓛.H in let 𝓣 = tables 𝓤 H 𝓜 𝓡 𝓡.env in let En = f.ended in let fn = code.function in let c = f.clauses 𝓛 𝓜.mem 𝓡.returns in
    let met = callee.met 𝓤 𝓛 𝓜 𝓡 (code.calls-core::slots::Slots::into_raw_parts 𝓡.env wired) E.row E.laws in
    let hs : Stays En.signature.params En.kept = (stay_dropped (slot_at 0 En.signature.params) En.kept.0, tt) in
    proved_at 𝓛 En hs c 𝓜 𝓡 (Goes-dropped 𝓛 0 (slot_at 0 En.signature.params) En.kept.0 (λ κs x w. refl), tt) f.Key.name fn (code.unfolded 𝓤 H 𝓜 𝓡 wired) (λ z are.
    let r : (Row E).Denot = z.0.3.0 in let vss = z.0.4 in let k : ℕ = slots_len r in let xs = slots_items r in let fs = slots_filled r in
    let Post : Val → SProp 𝓤 = (walk_of 𝓛 En hs c).post z in let Run : List Val → SProp 𝓤 = λ ws. WpFn 𝓤 H 𝓣.C 𝓣.Λ fn ws Post in
    let Asked : Type 0 = k < 2 ^ 32 in
    qed 𝓛 ((raw (alive 𝓛 En.signature z.0.0 z.0.1) ⊛ ‵ (owns (types_at En.signature.params z.0.0) z.0.3 vss)) ∷ raw (fact 𝓤 Asked) ∷ []) ∵
    move ! (1 ∷ []) $ heard ! Asked (λ asked. split ! $ move ! (1 ∷ []) $ fsplit ! $ Row-seen E ! r vss.0 (λ b o at e fk fit. keep ! (0 ∷ 2 ∷ []) $
    let us : List Val = row_val b o k ∷ [] in let lx : k ≡ length xs = (slots_counts r).0 in let lf : k ≡ length fs = (slots_counts r).1 in let p : Ptr = block_ptr b o in
    let words : WT (row_val b o k) = (tt, (record { fits = fk }, tt)) in
    suffices ! (Run us) (subst (λ (ws : List Val). ent 𝓤 (Run us) (Run ws)) (sym (λ i. e i ++ [])) (id⊢ 𝓤 (Run us))) $
    enter ! 𝓣.C 𝓣.Λ fn us Post $ alloc_all ! (λ l. pass_all ! refl ((tt, words), tt) $ let Ev = env fn.locals l in
    let y = at_into E 𝓛 𝓜.mem 𝓡.returns [] full_share r b o in
    first ! $ blocks ! $ sets ! (of_opd ! (get ! refl)) refl (tt, words) $
    use0 𝓛 (‵ (flft [] full_share)) (𝓛.lfts.lft-nil full_share) $ move ! (1 ∷ 0 ∷ []) $
    use2 𝓛 (raw ((Into E 𝓛 𝓜.mem 𝓡.returns).pre y)) (Into-goes E 𝓛 𝓜.mem 𝓡.returns [] full_share r b o (⊑_static [])) $
    calls_at_last ! (framed 𝓤 H 𝓜 𝓣) (Into E 𝓛 𝓜.mem 𝓡.returns) met y (and_then ! (get ! refl) (no_more !)) (λ v.
    use1 𝓛 (later (given (v ≡ row_val b o k) (‵ (places E b o xs fs) ⊛ ‵ (flft [] full_share)))) (Into-gives E 𝓛 𝓜.mem 𝓡.returns [] full_share r b o v at) $ await ! tt $ learn ! (λ ev. split ! $
    lands_last ! refl (parts_typed v b o k ev fk) $ exec ! 𝓣.C 𝓣.Λ Ev (after 1 fn.body) (at_ret Ev Post) $
    sets ! (is ! (of_opd ! (get ! refl)) ev) refl (tt, words) $ sets ! (agg ! (and_then ! (get_in ! (fld ! refl (stop !)) (sub ! 0 refl (whole !))) (no_more !))) refl (tt, (tt, tt)) $
    -- [the places; the lifetime; the tokens]
    use1 𝓛 (‵ (froom (block_type (length xs)) b o)) (to_room E 𝓛 b xs fs o (sym lf ∙ lx)) $
    let none : length xs ≡ k - 0 = omega (arith, lx) in let here : o ≡ 0 * 24 + o = omega arith in
    rewrite ! 0 (λ (u : ℕ × ℕ). ‵ (froom (block_type u.0) b u.1)) (λ i. (none i, here i)) refl $ nothing ! $ fjoin ! $ flt_i ! k (2 ^ 32) asked $ fjoin ! $
    use0 𝓛 (‵ (base_own p (base_val p ∷ []))) (base_made 𝓛 p) $ fjoin ! $
    let new : R.Denot = record { base = p; capacity = k; links = []; within = omega arith } in
    let no_links : List Link = [] in let Told : Type 0 = (p ≡ slots_ptr r) × (k ≡ k) × (no_links ≡ []) in
    use0 𝓛 (raw (fact 𝓤 Told)) (fact_i 𝓤 Told (emp 𝓤) (sym at, refl, refl)) $ nothing ! $ nothing ! $ fjoin ! $
    returns ! (look_at ! 0 refl) $ free_all ! refl $ keep ! (4 ∷ 0 ∷ 2 ∷ 1 ∷ []) $ by ! (leaves 𝓛 En hs c z (base_val p) new (tt, tt) (tt, tt))))))))
