-- `unlink` joins the cell's neighbours. Assumes `Logic`.
use Rattle.execlist.proofs.Steps.{◌≡◌, ℕ, List, [], ◌∷◌, refl, sym, ap, ◌∙◌, lit<, arith, proved, full_share, id⊢, ftrue, flft, named, Val, vunit, vint, fact, tables, ‵, raw, ◌⊛◌, at_ret, ◌$◌, ◌∵◌, !, qed, done, move, keep, split, join, fsplit, fsplit3, fjoin, feq_i, rewrite, suffices, frame, enter, of_opd, unit_lit, bin, lit, load, stop, fld, assigns, assigns_last, first, blocks, exec, returns, alloc_all, pass_all, free_all, look_at, get, through, sets, env, yes, shows, uint_vals, uint_Tells, Ptr, in_a_block, mut_vals, mut_Tells, plain, nothing, opens, closes, peeks, heard, Stays, stay_dropped, stay_ref, Goes-dropped, Goes-ref, walk_of, ends_at, length, ◌<◌, ◌*◌, ◌+◌, ◌-◌, ◌^◌, w64, vptr, never, froom, usize, owns, types_at, cell_at, fjoin3, flt_l, flt_i, whole, sub, look_in, after}
use Rattle.execlist.proofs.{Memory.cell_taken, Memory.cell_given, Memory.cell_back, Memory.unlinked-length, Memory.says_both, block.Block.unlink.Statement.statement, block.Block.TheLaws.lowers}
use lib.ListN.{length-set}
use types.Part.{store_in}
use Rattle.execlist.specs.{Links.link_at, Links.set_next, Links.set_prev, Links.unlinked, Ownership.block_own, Ownership.block_type, contracts.block.Block.the_row as R}
use Rattle.execlist.specs.contracts.block.Block.unlink as f
use Rattle.execlist.proofs.block.Block.unlink.Code as code

abbrev stayed : Stays f.ended.signature.params f.ended.kept
stayed = (stay_ref (0 ∷ []) tt (plain (λ _. R)), (stay_dropped (plain (λ _. usize)) yes, tt))

pub unlink_spec : {M : Type 1} → statement M
unlink_spec 𝓤 𝓛 𝓜 𝓡 wired =
    let c₀ = f.clauses 𝓛 𝓜.mem 𝓡.returns in let W = walk_of 𝓛 f.ended stayed c₀ in let 𝓣 = tables 𝓤 𝓛.H 𝓜 𝓡 𝓡.env in
    let goes = Goes-dropped 𝓛 1 (plain (λ _. usize)) yes (λ κs x w. refl) in
    proved 𝓛 f.ended stayed c₀ 𝓜 𝓡 (Goes-ref 𝓛 1 0 tt (plain (λ _. R)), (goes, tt))
    f.Key.name code.function (code.unfolded 𝓤 𝓛.H 𝓜 𝓡 wired)
    (λ κs. (mut_vals, (uint_vals w64, tt)))
    (λ κs. (mut_Tells (named 0) κs.0 R, (uint_Tells w64, tt))) (λ κs qs bounds x g are.
    let rb = x.0.ref_ptr.0 in let ro = x.0.ref_ptr.1 in let d = x.0.now in let ls = d.links in
    let c = x.1.0 in let n = (link_at ls c).next in let p = (link_at ls c).prev in
    let y : W.Ghost = ((κs, qs, bounds, x, (mut_vals x.0, (uint_vals w64 c, tt))), tt) in
    let sc = are.1.0.1 in
    let Asked : Type 0 = (c < length ls) × (n < length ls) × (p < length ls) in
    qed 𝓛 (((‵ (flft κs.0 qs.0) ⊛ ‵ ftrue) ⊛ ‵ (owns (types_at f.ended.signature.params κs) x y.0.4)) ∷ raw (fact 𝓤 Asked) ∷ []) ∵
    move ! (1 ∷ []) $ heard ! Asked (λ asked. split ! $ split ! $ move ! (2 ∷ []) $ fsplit ! $ keep ! (0 ∷ 2 ∷ []) $
    enter ! 𝓣.C 𝓣.Λ code.function (vptr rb ro ∷ vint w64 c ∷ []) _ $
    alloc_all ! (λ l. pass_all ! refl ((tt, tt), ((tt, record { fits = sc }), tt)) $
    fsplit3 ! $ move ! (1 ∷ 2 ∷ 3 ∷ []) $ opens ! tt R rb ro (λ us.
    move ! (1 ∷ []) $ peeks ! R _ (shows 𝓛 R) d us (λ is. fsplit ! $ move ! (1 ∷ []) $
    in_a_block ! d.base (λ u. block_own u d.capacity ls) (id⊢ 𝓤 (never 𝓤)) (λ b o e. fsplit ! $ flt_l ! (λ fit. fsplit ! $ let all = d.within in
    let word = lowers.val_is d us is ∙ ap (λ (u : Ptr). lowers.lowered (record d { base = u }) ∷ []) e in
    let Cell = λ (ws : List Val). ‵ (cell_at full_share R.mir ws rb ro) in
    rewrite ! 3 Cell word refl $
    -- [the cells; the room; what the fields own; the struct's cell; the open borrow, in three entries]
    first ! $ blocks ! $
    sets ! (of_opd ! (load ! (through ! refl (fld ! refl (stop !))) (look_in ! 3 (sub ! 0 refl (whole !))))) refl (tt, tt) $
    sets ! (bin ! (get ! refl) (lit ! tt) (record { fits = omega (arith, asked.0, fit, all) })) refl (tt, record { fits = omega (arith, asked.0, fit, all) }) $
    sets ! (bin ! (get ! refl) (get ! refl) tt) refl (tt, tt) $
    let lc : c < 2 ^ 32 = omega (arith, asked.0, fit, all) in
    cell_taken ! full_share b o ls c asked.0 (λ fits.
    sets ! (of_opd ! (load ! (through ! refl (fld ! refl (stop !))) (look_in ! 0 (sub ! 0 refl (whole !))))) refl (tt, tt) $
    sets ! (of_opd ! (load ! (through ! refl (fld ! refl (stop !))) (look_in ! 0 (sub ! 1 refl (whole !))))) refl (tt, tt) $
    cell_back ! full_share b o ls c asked.0 lc fits $
    let l0 = ls in let l1 = set_next p n l0 in let l2 = set_prev n p l1 in
    let n1 : length l1 ≡ length ls = length-set l0 p (record (link_at l0 p) { next = n }) in
    let n2 : length l2 ≡ length ls = length-set l1 n (record (link_at l1 n) { prev = p }) ∙ n1 in
    let sn : n < 2 ^ 32 = omega (arith, asked.1, fit, all) in let sp : p < 2 ^ 32 = omega (arith, asked.2, fit, all) in
    cell_taken ! full_share b o l0 p asked.2 (λ f0.
    assigns ! (of_opd ! (get ! refl)) (through ! refl (fld ! refl (stop !))) (store_in ! 0 (sub ! 0 refl (whole !)) (tt, tt)) $
    cell_given ! full_share b o l0 p (record (link_at l0 p) { next = n }) asked.2 sp f0 $
    cell_taken ! full_share b o l1 n (omega (arith, n1, asked.1)) (λ f1.
    assigns ! (of_opd ! (get ! refl)) (through ! refl (fld ! refl (stop !))) (store_in ! 0 (sub ! 1 refl (whole !)) (tt, tt)) $
    cell_given ! full_share b o l1 n (record (link_at l1 n) { prev = p }) (omega (arith, n1, asked.1)) sn f1 $
    cell_taken ! full_share b o l2 c (omega (arith, n2, asked.0)) (λ f2.
    assigns_last ! (of_opd ! (lit ! tt)) (through ! refl (fld ! refl (stop !))) (store_in ! 0 (sub ! 3 refl (whole !)) (tt, record { fits = lit< tt })) $
    cell_given ! full_share b o l2 c (record (link_at l2 c) { home = 0 }) (omega (arith, n2, asked.0)) lc (lit< tt) $
    exec ! 𝓣.C 𝓣.Λ (env code.Mir.locals l) (after 1 (code.function).body) (at_ret _ (W.post y)) $
    sets ! (of_opd ! (unit_lit !)) refl (tt, tt) $
    let ls' = unlinked c ls in let same : length ls' ≡ length ls = unlinked-length c ls in
    let new = record d { links = ls'; within = omega (arith, all, same) } in
    rewrite ! 1 (λ (u : ℕ). ‵ (froom (block_type (d.capacity - u)) b (u * 24 + o))) (sym same) refl $ fjoin ! $
    flt_i ! d.capacity (2 ^ 32) fit $ fjoin ! $
    rewrite ! 0 (λ (u : Ptr). ‵ (block_own u d.capacity ls')) (sym e) refl $ rewrite ! 2 Cell (sym word) refl $
    move ! (1 ∷ []) $ fjoin ! $ move ! (1 ∷ []) $ closes ! tt R new us rb ro $
    returns ! (look_at ! 0 refl) $ free_all ! refl $ move ! (3 ∷ []) $
    suffices ! _ (ends_at 𝓛 f.ended stayed c₀ y vunit tt (new, (tt, tt)) (tt, (tt, tt))) $ says_both ! refl (refl, refl) $
    fjoin3 ! $ nothing ! $ nothing ! $ fjoin ! $ move ! (1 ∷ 0 ∷ []) $ fjoin ! $
    nothing ! $ move ! (2 ∷ 0 ∷ []) $ join ! $ frame ! $ frame ! $ feq_i ! _ (vunit ∷ []) _ refl $ done !)))))))))))
