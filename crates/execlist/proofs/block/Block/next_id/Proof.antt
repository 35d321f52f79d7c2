-- `next_id` reads the number of the next cell through a `&`. Assumes `Logic`.
use Rattle.execlist.proofs.Steps.{[], ◌∷◌, refl, arith, proved, id⊢, ftrue, flft, named, vint, fact, tables, ‵, raw, ◌⊛◌, at_ret, ◌$◌, ◌∵◌, !, qed, done, move, keep, drop, split, join, fsplit, fjoin, suffices, frame, enter, of_opd, bin, load, look, stop, fld, first, blocks, exec, returns, alloc_all, pass_all, free_all, look_at, get, through, sets, env, yes, uint_vals, uint_Tells, uint_Makes, in_a_block, plain, nothing, owned, heard, Stays, says, stay_dropped, Goes-dropped, walk_of, ends_at, length, ◌<◌, ◌+◌, ◌^◌, never, usize, u32, RefOf, owns, shr_vals, shr_Tells, types_at, hide, unhide, looks_slice, shuts_slice, flt_l, whole, sub, look_in, lit, w64, w32, vptr, sets_last, after}
use Rattle.execlist.proofs.{Memory.cell_Copied, Memory.cell_taken, Memory.cell_back, Memory.pointer_in, Memory.pointer_out, block.Block.next_id.Statement.statement}
use Rattle.execlist.specs.{Links.link_at, Ownership.cell_row, Ownership.laid, Ownership.block_lent, contracts.block.Block.the_row as R}
use Rattle.execlist.specs.contracts.block.Block.next_id as f
use Rattle.execlist.proofs.block.Block.next_id.Code as code

abbrev stayed : Stays f.ended.signature.params f.ended.kept
stayed = (stay_dropped (RefOf (0 ∷ []) tt (plain (λ _. R)) (λ _. tt)) yes, (stay_dropped (plain (λ _. usize)) yes, tt))

pub next_id_spec : {M : Type 1} → statement M
next_id_spec 𝓤 𝓛 𝓜 𝓡 wired =
    let c = f.clauses 𝓛 𝓜.mem 𝓡.returns in let W = walk_of 𝓛 f.ended stayed c in let 𝓣 = tables 𝓤 𝓛.H 𝓜 𝓡 𝓡.env in
    proved 𝓛 f.ended stayed c 𝓜 𝓡 (Goes-dropped 𝓛 1 (RefOf (0 ∷ []) tt (plain (λ _. R)) (λ _. tt)) yes (λ κs x w. refl), (Goes-dropped 𝓛 1 (plain (λ _. usize)) yes (λ κs x w. refl), tt))
    f.Key.name code.function (code.unfolded 𝓤 𝓛.H 𝓜 𝓡 wired)
    (λ κs. (shr_vals, (uint_vals w64, tt))) (λ κs. (shr_Tells (named 0) κs.0 R, (uint_Tells w64, tt))) (λ κs qs bounds a g are.
    let rb = a.0.ref_ptr.0 in let ro = a.0.ref_ptr.1 in let h = a.0.now in let i = a.1.0 in let ls = h.links in let j = (link_at ls i).next in
    let y : W.Ghost = ((κs, qs, bounds, a, (shr_vals a.0, (uint_vals w64 i, tt))), tt) in
    let small = are.1.0.1 in
    qed 𝓛 (((‵ (flft κs.0 qs.0) ⊛ ‵ ftrue) ⊛ ‵ (owns (types_at f.ended.signature.params κs) a y.0.4)) ∷ raw (fact 𝓤 ((i < length ls) × (j < length ls))) ∷ []) ∵
    move ! (1 ∷ []) $ heard ! ((i < length ls) × (j < length ls)) (λ asked. let within = asked.0 in let there = asked.1 in
    split ! $ split ! $ move ! (2 ∷ []) $ fsplit ! $ fsplit ! $ drop ! $
    unhide ! $ fsplit ! $ fsplit ! $ fsplit ! $ hide ! $ move ! (3 ∷ []) $
    in_a_block ! h.base (λ p. block_lent p h.capacity ls κs.0) (id⊢ 𝓤 (never 𝓤)) (λ b o e. fsplit ! $ flt_l ! (λ fit. let all = h.within in let first_low : i < 2 ^ 32 = omega (arith, within, fit, all) in hide ! $
    keep ! (1 ∷ 5 ∷ 0 ∷ []) $
    -- [a `&` to the base; the token; a `&` to the cells]
    enter ! 𝓣.C 𝓣.Λ code.function (vptr rb ro ∷ vint w64 i ∷ []) _ $ alloc_all ! (λ l. pass_all ! refl ((tt, tt), ((tt, record { fits = small }), tt)) $
    first ! $ blocks ! $ pointer_in ! tt h.base b o e rb (ro + 0) (λ q₀.
    sets ! (of_opd ! (load ! (through ! refl (fld ! refl (stop !))) (look ! 0 refl))) refl (tt, tt) $
    pointer_out ! tt h.base b o e rb (ro + 0) $
    sets ! (bin ! (get ! refl) (lit ! tt) (record { fits = omega (arith, within, fit, all) })) refl (tt, record { fits = omega (arith, within, fit, all) }) $
    sets ! (bin ! (get ! refl) (get ! refl) tt) refl (tt, tt) $
    move ! (1 ∷ 0 ∷ []) $ looks_slice ! tt cell_row (cell_Copied 𝓛) (laid b o 0 ls) b o (λ q'.
    cell_taken ! q' b o ls i within (λ fits.
    sets ! (of_opd ! (load ! (through ! refl (fld ! refl (stop !))) (look_in ! 0 (sub ! 0 refl (whole !))))) refl (tt, tt) $
    cell_back ! q' b o ls i within first_low fits $ let low : j < 2 ^ 32 = omega (arith, there, fit, all) in
    cell_taken ! q' b o ls j there (λ fits'.
    sets_last ! (of_opd ! (load ! (through ! refl (fld ! refl (stop !))) (look_in ! 0 (sub ! 2 refl (whole !))))) refl (tt, record { fits = low }) $
    exec ! 𝓣.C 𝓣.Λ (env code.Mir.locals l) (after 1 (code.function).body) (at_ret _ (W.post y)) $
    sets ! (of_opd ! (get ! refl)) refl (tt, record { fits = low }) $
    cell_back ! q' b o ls j there low fits' $ shuts_slice ! tt cell_row q' (laid b o 0 ls) b o $
    returns ! (look_at ! 0 refl) $ free_all ! refl $ keep ! (0 ∷ []) $
    suffices ! _ (ends_at 𝓛 f.ended stayed c y (vint w32 j) j (tt, (tt, tt)) (tt, (tt, tt))) $ says ! refl $
    owned ! u32 _ (uint_Makes 𝓛 w32) j _ (refl, low) $ move ! (1 ∷ 0 ∷ []) $
    nothing ! $ move ! (1 ∷ 0 ∷ []) $ join ! $ frame ! $ nothing ! $ nothing ! $ fjoin ! $ nothing ! $ fjoin ! $ done !)))))))))
