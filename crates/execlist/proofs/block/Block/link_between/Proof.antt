-- `link_between` writes four pointers and the header's number. Assumes `Logic`.
use Rattle.execlist.proofs.Steps.{◌≡◌, ℕ, List, [], ◌∷◌, refl, sym, ap, ◌∙◌, arith, proved, full_share, id⊢, ftrue, flft, named, Val, vunit, vint, fact, tables, ‵, raw, ◌⊛◌, at_ret, ◌$◌, ◌∵◌, !, qed, done, move, keep, split, join, fsplit, fsplit3, fjoin, feq_i, rewrite, suffices, frame, enter, of_opd, unit_lit, bin, lit, load, stop, fld, assigns, assigns_last, first, blocks, exec, returns, alloc_all, pass_all, free_all, look_at, get, through, sets, env, yes, shows, uint_vals, uint_Tells, Ptr, in_a_block, mut_vals, mut_Tells, plain, nothing, opens, closes, peeks, heard, Stays, stay_dropped, stay_ref, Goes-dropped, Goes-ref, walk_of, ends_at, length, ◌<◌, ◌*◌, ◌+◌, ◌-◌, ◌^◌, w64, w32, vptr, never, froom, usize, u32, owns, types_at, cell_at, fjoin3, flt_l, flt_i, whole, sub, look_in, after}
use Rattle.execlist.proofs.{Memory.cell_taken, Memory.cell_given, Memory.linked-length, Memory.says_both, block.Block.link_between.Statement.statement, block.Block.TheLaws.lowers}
use lib.ListN.{length-set}
use types.Part.{store_in}
use Rattle.execlist.specs.{Links.link_at, Links.set_next, Links.set_prev, Links.set_home, Links.linked, Ownership.block_own, Ownership.block_type, contracts.block.Block.the_row as R}
use Rattle.execlist.specs.contracts.block.Block.link_between as f
use Rattle.execlist.proofs.block.Block.link_between.Code as code

abbrev stayed : Stays f.ended.signature.params f.ended.kept
stayed = (stay_ref (0 ∷ []) tt (plain (λ _. R)), (stay_dropped (plain (λ _. usize)) yes, (stay_dropped (plain (λ _. usize)) yes, (stay_dropped (plain (λ _. usize)) yes, (stay_dropped (plain (λ _. u32)) yes, tt)))))

pub link_between_spec : {M : Type 1} → statement M
link_between_spec 𝓤 𝓛 𝓜 𝓡 wired =
    let c₀ = f.clauses 𝓛 𝓜.mem 𝓡.returns in let W = walk_of 𝓛 f.ended stayed c₀ in let 𝓣 = tables 𝓤 𝓛.H 𝓜 𝓡 𝓡.env in
    let goes = Goes-dropped 𝓛 1 (plain (λ _. usize)) yes (λ κs x w. refl) in let goes_home = Goes-dropped 𝓛 1 (plain (λ _. u32)) yes (λ κs x w. refl) in
    proved 𝓛 f.ended stayed c₀ 𝓜 𝓡 (Goes-ref 𝓛 1 0 tt (plain (λ _. R)), (goes, (goes, (goes, (goes_home, tt)))))
    f.Key.name code.function (code.unfolded 𝓤 𝓛.H 𝓜 𝓡 wired)
    (λ κs. (mut_vals, (uint_vals w64, (uint_vals w64, (uint_vals w64, (uint_vals w32, tt))))))
    (λ κs. (mut_Tells (named 0) κs.0 R, (uint_Tells w64, (uint_Tells w64, (uint_Tells w64, (uint_Tells w32, tt)))))) (λ κs qs bounds x g are.
    let rb = x.0.ref_ptr.0 in let ro = x.0.ref_ptr.1 in let d = x.0.now in let ls = d.links in
    let a = x.1.0 in let c = x.1.1.0 in let b' = x.1.1.1.0 in let h = x.1.1.1.1.0 in
    let y : W.Ghost = ((κs, qs, bounds, x, (mut_vals x.0, (uint_vals w64 a, (uint_vals w64 c, (uint_vals w64 b', (uint_vals w32 h, tt)))))), tt) in
    let sa = are.1.0.1 in let sc = are.1.1.0.1 in let sb = are.1.1.1.0.1 in let sh = are.1.1.1.1.0.1 in
    let Asked : Type 0 = (a < length ls) × (c < length ls) × (b' < length ls) in
    qed 𝓛 (((‵ (flft κs.0 qs.0) ⊛ ‵ ftrue) ⊛ ‵ (owns (types_at f.ended.signature.params κs) x y.0.4)) ∷ raw (fact 𝓤 Asked) ∷ []) ∵
    move ! (1 ∷ []) $ heard ! Asked (λ asked. split ! $ split ! $ move ! (2 ∷ []) $ fsplit ! $ keep ! (0 ∷ 2 ∷ []) $
    enter ! 𝓣.C 𝓣.Λ code.function (vptr rb ro ∷ vint w64 a ∷ vint w64 c ∷ vint w64 b' ∷ vint w32 h ∷ []) _ $
    alloc_all ! (λ l. pass_all ! refl ((tt, tt), ((tt, record { fits = sa }), ((tt, record { fits = sc }), ((tt, record { fits = sb }), ((tt, record { fits = sh }), tt))))) $
    fsplit3 ! $ move ! (1 ∷ 2 ∷ 3 ∷ []) $ opens ! tt R rb ro (λ us.
    move ! (1 ∷ []) $ peeks ! R _ (shows 𝓛 R) d us (λ is. fsplit ! $ move ! (1 ∷ []) $
    in_a_block ! d.base (λ p. block_own p d.capacity ls) (id⊢ 𝓤 (never 𝓤)) (λ b o e. fsplit ! $ flt_l ! (λ fit. fsplit ! $ let all = d.within in
    let word = lowers.val_is d us is ∙ ap (λ (p : Ptr). lowers.lowered (record d { base = p }) ∷ []) e in
    let Cell = λ (ws : List Val). ‵ (cell_at full_share R.mir ws rb ro) in
    rewrite ! 3 Cell word refl $
    -- [the cells; the room; what the fields own; the struct's cell; the open borrow, in three entries]
    first ! $ blocks ! $
    sets ! (of_opd ! (load ! (through ! refl (fld ! refl (stop !))) (look_in ! 3 (sub ! 0 refl (whole !))))) refl (tt, tt) $
    sets ! (bin ! (get ! refl) (lit ! tt) (record { fits = omega (arith, asked.0, fit, all) })) refl (tt, record { fits = omega (arith, asked.0, fit, all) }) $
    sets ! (bin ! (get ! refl) (get ! refl) tt) refl (tt, tt) $
    sets ! (of_opd ! (load ! (through ! refl (fld ! refl (stop !))) (look_in ! 3 (sub ! 0 refl (whole !))))) refl (tt, tt) $
    sets ! (bin ! (get ! refl) (lit ! tt) (record { fits = omega (arith, asked.1, fit, all) })) refl (tt, record { fits = omega (arith, asked.1, fit, all) }) $
    sets ! (bin ! (get ! refl) (get ! refl) tt) refl (tt, tt) $
    sets ! (of_opd ! (load ! (through ! refl (fld ! refl (stop !))) (look_in ! 3 (sub ! 0 refl (whole !))))) refl (tt, tt) $
    sets ! (bin ! (get ! refl) (lit ! tt) (record { fits = omega (arith, asked.2, fit, all) })) refl (tt, record { fits = omega (arith, asked.2, fit, all) }) $
    sets ! (bin ! (get ! refl) (get ! refl) tt) refl (tt, tt) $
    let la : a < 2 ^ 32 = omega (arith, asked.0, fit, all) in let lc : c < 2 ^ 32 = omega (arith, asked.1, fit, all) in let lb : b' < 2 ^ 32 = omega (arith, asked.2, fit, all) in let l0 = ls in let l1 = set_next c b' l0 in let l2 = set_prev c a l1 in let l3 = set_home c h l2 in let l4 = set_next a c l3 in
    let n1 : length l1 ≡ length ls = length-set l0 c (record (link_at l0 c) { next = b' }) in
    let n2 : length l2 ≡ length ls = length-set l1 c (record (link_at l1 c) { prev = a }) ∙ n1 in
    let n3 : length l3 ≡ length ls = length-set l2 c (record (link_at l2 c) { home = h }) ∙ n2 in
    let n4 : length l4 ≡ length ls = length-set l3 a (record (link_at l3 a) { next = c }) ∙ n3 in
    cell_taken ! full_share b o l0 c asked.1 (λ f0.
    assigns ! (of_opd ! (get ! refl)) (through ! refl (fld ! refl (stop !))) (store_in ! 0 (sub ! 0 refl (whole !)) (tt, tt)) $
    cell_given ! full_share b o l0 c (record (link_at l0 c) { next = b' }) asked.1 lc f0 $
    cell_taken ! full_share b o l1 c (omega (arith, n1, asked.1)) (λ f1.
    assigns ! (of_opd ! (get ! refl)) (through ! refl (fld ! refl (stop !))) (store_in ! 0 (sub ! 1 refl (whole !)) (tt, tt)) $
    cell_given ! full_share b o l1 c (record (link_at l1 c) { prev = a }) (omega (arith, n1, asked.1)) lc f1 $
    cell_taken ! full_share b o l2 c (omega (arith, n2, asked.1)) (λ f2.
    assigns ! (of_opd ! (get ! refl)) (through ! refl (fld ! refl (stop !))) (store_in ! 0 (sub ! 3 refl (whole !)) (tt, record { fits = sh })) $
    cell_given ! full_share b o l2 c (record (link_at l2 c) { home = h }) (omega (arith, n2, asked.1)) lc sh $
    cell_taken ! full_share b o l3 a (omega (arith, n3, asked.0)) (λ f3.
    assigns ! (of_opd ! (get ! refl)) (through ! refl (fld ! refl (stop !))) (store_in ! 0 (sub ! 0 refl (whole !)) (tt, tt)) $
    cell_given ! full_share b o l3 a (record (link_at l3 a) { next = c }) (omega (arith, n3, asked.0)) la f3 $
    cell_taken ! full_share b o l4 b' (omega (arith, n4, asked.2)) (λ f4.
    assigns_last ! (of_opd ! (get ! refl)) (through ! refl (fld ! refl (stop !))) (store_in ! 0 (sub ! 1 refl (whole !)) (tt, tt)) $
    cell_given ! full_share b o l4 b' (record (link_at l4 b') { prev = c }) (omega (arith, n4, asked.2)) lb f4 $
    exec ! 𝓣.C 𝓣.Λ (env code.Mir.locals l) (after 1 (code.function).body) (at_ret _ (W.post y)) $
    sets ! (of_opd ! (unit_lit !)) refl (tt, tt) $
    let ls' = linked a c b' h ls in let same : length ls' ≡ length ls = linked-length a c b' h ls in
    let new = record d { links = ls'; within = omega (arith, all, same) } in
    rewrite ! 1 (λ (n : ℕ). ‵ (froom (block_type (d.capacity - n)) b (n * 24 + o))) (sym same) refl $ fjoin ! $
    flt_i ! d.capacity (2 ^ 32) fit $ fjoin ! $
    rewrite ! 0 (λ (p : Ptr). ‵ (block_own p d.capacity ls')) (sym e) refl $ rewrite ! 2 Cell (sym word) refl $
    move ! (1 ∷ []) $ fjoin ! $ move ! (1 ∷ []) $ closes ! tt R new us rb ro $
    returns ! (look_at ! 0 refl) $ free_all ! refl $ move ! (3 ∷ []) $
    suffices ! _ (ends_at 𝓛 f.ended stayed c₀ y vunit tt (new, (tt, (tt, (tt, (tt, tt))))) (tt, (tt, (tt, (tt, (tt, tt)))))) $ says_both ! refl (refl, refl) $
    fjoin3 ! $ nothing ! $ nothing ! $ fjoin ! $ nothing ! $ fjoin ! $ nothing ! $ fjoin ! $ nothing ! $ fjoin ! $ move ! (1 ∷ 0 ∷ []) $ fjoin ! $
    nothing ! $ move ! (2 ∷ 0 ∷ []) $ join ! $ frame ! $ frame ! $ feq_i ! _ (vunit ∷ []) _ refl $ done !))))))))))))
