-- `push` writes one whole cell. Assumes `Logic`.
use Rattle.execlist.proofs.Steps.{◌≡◌, ℕ, List, [], ◌∷◌, refl, sym, ap, ◌∙◌, arith, proved, full_share, id⊢, ftrue, fat, flft, named, Val, vunit, vint, fact, tables, ‵, raw, ◌⊛◌, at_ret, ◌$◌, ◌∵◌, !, qed, done, move, keep, split, join, fsplit, fsplit3, fjoin, feq_i, rewrite, suffices, frame, enter, of_opd, unit_lit, bin, lit, load, stop, fld, assigns_last, first, blocks, exec, returns, alloc_all, pass_all, free_all, look_at, get, through, sets, env, yes, shows, uint_vals, uint_Tells, Ptr, in_a_block, mut_vals, mut_Tells, plain, nothing, opens, closes, peeks, heard, Stays, stay_dropped, stay_ref, Goes-dropped, Goes-ref, walk_of, ends_at, length, ◌<◌, ◌*◌, ◌+◌, ◌-◌, ◌^◌, w32, w64, vptr, never, froom, usize, u32, owns, types_at, cell_at, fjoin3, flt_l, flt_i, whole, sub, look_in, no_more, and_then, use1, use2, after}
use Rattle.execlist.proofs.{Memory.cell_made, Memory.cells_push, Memory.says_both, block.Block.push.Statement.statement, block.Block.TheLaws.lowers}
use lib.ListN.{length-append}
use Prim.Native.Nat.{suc}
use mir.Syntax.{Ty}
use denote.Memory.{part_at, lone}
use types.Part.{agg}
use types.Run.{init}
use types.Kit.{use0}
use borrow.Table.OneValue.{part_in}
use mathlib.Core.List.{◌++◌}
use Rattle.execlist.specs.Ownership.{cell_row, cell_type, cell_val, cell_of, cells_own, block_own, block_type}
use Rattle.execlist.specs.{Links.link, contracts.block.Block.the_row as R}
use Rattle.execlist.specs.contracts.block.Cell as cell
use Rattle.execlist.specs.contracts.block.Block.push as f
use Rattle.execlist.proofs.block.Block.push.Code as code

abbrev named_cell : Ty
named_cell = lone (cell.the_row).mir

abbrev stayed : Stays f.ended.signature.params f.ended.kept
stayed = (stay_ref (0 ∷ []) tt (plain (λ _. R)), (stay_dropped (plain (λ _. usize)) yes, (stay_dropped (plain (λ _. u32)) yes, (stay_dropped (plain (λ _. usize)) yes, (stay_dropped (plain (λ _. usize)) yes, (stay_dropped (plain (λ _. u32)) yes, tt))))))

pub push_spec : {M : Type 1} → statement M
push_spec 𝓤 𝓛 𝓜 𝓡 wired =
    let c₀ = f.clauses 𝓛 𝓜.mem 𝓡.returns in let W = walk_of 𝓛 f.ended stayed c₀ in let 𝓣 = tables 𝓤 𝓛.H 𝓜 𝓡 𝓡.env in
    let goes = Goes-dropped 𝓛 1 (plain (λ _. usize)) yes (λ κs x w. refl) in let short_goes = Goes-dropped 𝓛 1 (plain (λ _. u32)) yes (λ κs x w. refl) in
    proved 𝓛 f.ended stayed c₀ 𝓜 𝓡 (Goes-ref 𝓛 1 0 tt (plain (λ _. R)), (goes, (short_goes, (goes, (goes, (short_goes, tt))))))
    f.Key.name code.function (code.unfolded 𝓤 𝓛.H 𝓜 𝓡 wired)
    (λ κs. (mut_vals, (uint_vals w64, (uint_vals w32, (uint_vals w64, (uint_vals w64, (uint_vals w32, tt)))))))
    (λ κs. (mut_Tells (named 0) κs.0 R, (uint_Tells w64, (uint_Tells w32, (uint_Tells w64, (uint_Tells w64, (uint_Tells w32, tt))))))) (λ κs qs bounds x g are.
    let rb = x.0.ref_ptr.0 in let ro = x.0.ref_ptr.1 in let d = x.0.now in let ls = d.links in
    let i = x.1.0 in let k = x.1.1.0 in let a = x.1.1.1.0 in let c = x.1.1.1.1.0 in let h = x.1.1.1.1.1.0 in
    let y : W.Ghost = ((κs, qs, bounds, x, (mut_vals x.0, (uint_vals w64 i, (uint_vals w32 k, (uint_vals w64 a, (uint_vals w64 c, (uint_vals w32 h, tt))))))), tt) in
    let si = are.1.0.1 in let sk = are.1.1.0.1 in let sa = are.1.1.1.0.1 in let sc = are.1.1.1.1.0.1 in let sh = are.1.1.1.1.1.0.1 in
    let Asked : Type 0 = (i ≡ length ls) × (k ≡ length ls) × (i < d.capacity) × (a < d.capacity) × (c < d.capacity) in
    qed 𝓛 (((‵ (flft κs.0 qs.0) ⊛ ‵ ftrue) ⊛ ‵ (owns (types_at f.ended.signature.params κs) x y.0.4)) ∷ raw (fact 𝓤 Asked) ∷ []) ∵
    move ! (1 ∷ []) $ heard ! Asked (λ asked. split ! $ split ! $ move ! (2 ∷ []) $ fsplit ! $ keep ! (0 ∷ 2 ∷ []) $
    enter ! 𝓣.C 𝓣.Λ code.function (vptr rb ro ∷ vint w64 i ∷ vint w32 k ∷ vint w64 a ∷ vint w64 c ∷ vint w32 h ∷ []) _ $
    alloc_all ! (λ l. pass_all ! refl ((tt, tt), ((tt, record { fits = si }), ((tt, record { fits = sk }), ((tt, record { fits = sa }), ((tt, record { fits = sc }), ((tt, record { fits = sh }), tt)))))) $
    fsplit3 ! $ move ! (1 ∷ 2 ∷ 3 ∷ []) $ opens ! tt R rb ro (λ us.
    move ! (1 ∷ []) $ peeks ! R _ (shows 𝓛 R) d us (λ is. fsplit ! $ move ! (1 ∷ []) $
    in_a_block ! d.base (λ p. block_own p d.capacity ls) (id⊢ 𝓤 (never 𝓤)) (λ b o e. fsplit ! $ flt_l ! (λ fit. fsplit ! $ let all = d.within in
    let word = lowers.val_is d us is ∙ ap (λ (p : Ptr). lowers.lowered (record d { base = p }) ∷ []) e in
    let Cell = λ (ws : List Val). ‵ (cell_at full_share R.mir ws rb ro) in
    rewrite ! 3 Cell word refl $
    -- [the cells; the room; what the fields own; the struct's cell; the open borrow, in three entries]
    move ! (1 ∷ []) $ let at = asked.0 in let left = d.capacity - suc (length ls) in
    let one : d.capacity - length ls ≡ suc left = omega (arith, at, asked.2) in
    rewrite ! 0 (λ (n : ℕ). ‵ (froom (block_type n) b (length ls * 24 + o))) one refl $
    use1 𝓛 (‵ (froom cell_type b (length ls * 24 + o)) ⊛ ‵ (froom (block_type left) b (length ls * 24 + o + 24))) (𝓛.laws.room_uncons cell_type left b (length ls * 24 + o)) $ split ! $
    rewrite ! 0 (λ (n : ℕ). ‵ (froom cell_type b (n * 24 + o))) (sym at) refl $ use1 𝓛 (‵ (froom named_cell b (i * 24 + o))) (𝓛.laws.raw-room named_cell b (i * 24 + o)) $
    -- [room for the cell; room for the rest; the cells; what the fields own; the struct's cell; the open borrow]
    first ! $ blocks ! $
    sets ! (of_opd ! (load ! (through ! refl (fld ! refl (stop !))) (look_in ! 4 (sub ! 0 refl (whole !))))) refl (tt, tt) $
    sets ! (bin ! (get ! refl) (lit ! tt) (record { fits = omega (arith, asked.2, fit) })) refl (tt, record { fits = omega (arith, asked.2, fit) }) $
    sets ! (bin ! (get ! refl) (get ! refl) tt) refl (tt, tt) $
    sets ! (of_opd ! (load ! (through ! refl (fld ! refl (stop !))) (look_in ! 4 (sub ! 0 refl (whole !))))) refl (tt, tt) $
    sets ! (bin ! (get ! refl) (lit ! tt) (record { fits = omega (arith, asked.3, fit) })) refl (tt, record { fits = omega (arith, asked.3, fit) }) $
    sets ! (bin ! (get ! refl) (get ! refl) tt) refl (tt, tt) $
    sets ! (of_opd ! (load ! (through ! refl (fld ! refl (stop !))) (look_in ! 4 (sub ! 0 refl (whole !))))) refl (tt, tt) $
    sets ! (bin ! (get ! refl) (lit ! tt) (record { fits = omega (arith, asked.4, fit) })) refl (tt, record { fits = omega (arith, asked.4, fit) }) $
    sets ! (bin ! (get ! refl) (get ! refl) tt) refl (tt, tt) $
    sets ! (agg ! (and_then ! (get ! refl) (and_then ! (get ! refl) (and_then ! (get ! refl) (and_then ! (get ! refl) (no_more !)))))) refl (tt, (tt, (tt, (record { fits = sk }, (record { fits = sh }, tt))))) $
    assigns_last ! (of_opd ! (get ! refl)) (through ! refl (stop !)) (init ! 0 refl (tt, (tt, (tt, (record { fits = sk }, (record { fits = sh }, tt)))))) $
    exec ! 𝓣.C 𝓣.Λ (env code.Mir.locals l) (after 1 (code.function).body) (at_ret _ (W.post y)) $
    sets ! (of_opd ! (unit_lit !)) refl (tt, tt) $
    let new_link = link a c h in let named_by : k ≡ i = asked.1 ∙ sym at in let ls' = ls ++ new_link ∷ [] in let v = cell_val (cell_of b o k new_link) in
    let long : length ls' ≡ suc (length ls) = length-append ls (new_link ∷ []) ∙ omega arith in
    use1 𝓛 (‵ (fat full_share cell_type b (i * 24 + o) v)) (𝓛.laws.at_raw full_share named_cell b (i * 24 + o) v) $
    use0 𝓛 (‵ (cell_row.own_val (cell_of b o k new_link) (v ∷ []))) (cell_made 𝓛 (cell_of b o k new_link) sk sh) $ move ! (1 ∷ 0 ∷ []) $
    use2 𝓛 (‵ (part_at cell_row full_share (cell_of b o k new_link) b (i * 24 + o))) (part_in 𝓛 cell_row refl full_share (cell_of b o k new_link) b (i * 24 + o) v) $
    move ! (2 ∷ 0 ∷ []) $ use2 𝓛 (‵ (cells_own b o ls')) (cells_push 𝓛 b o 0 ls o (i * 24 + o) k new_link (ap (λ (n : ℕ). n * 24 + o) at) (omega (arith, asked.1))) $
    let left_is : left ≡ d.capacity - length ls' = omega (arith, long) in let after_is : length ls * 24 + o + 24 ≡ length ls' * 24 + o = omega (arith, long) in
    move ! (1 ∷ []) $ rewrite ! 0 (λ (u : ℕ × ℕ). ‵ (froom (block_type u.0) b u.1)) (λ j. (left_is j, after_is j)) refl $ move ! (1 ∷ 0 ∷ []) $ fjoin ! $
    let new = record d { links = ls'; within = omega (arith, long, at, asked.2) } in
    flt_i ! d.capacity (2 ^ 32) fit $ fjoin ! $
    rewrite ! 0 (λ (p : Ptr). ‵ (block_own p d.capacity ls')) (sym e) refl $ rewrite ! 2 Cell (sym word) refl $
    move ! (1 ∷ []) $ fjoin ! $ move ! (1 ∷ []) $ closes ! tt R new us rb ro $
    returns ! (look_at ! 0 refl) $ free_all ! refl $ move ! (3 ∷ []) $
    suffices ! _ (ends_at 𝓛 f.ended stayed c₀ y vunit tt (new, (tt, (tt, (tt, (tt, (tt, tt)))))) (tt, (tt, (tt, (tt, (tt, (tt, tt))))))) $ says_both ! refl (refl, refl) $
    fjoin3 ! $ nothing ! $ nothing ! $ fjoin ! $ nothing ! $ fjoin ! $ nothing ! $ fjoin ! $ nothing ! $ fjoin ! $ nothing ! $ fjoin ! $ move ! (1 ∷ 0 ∷ []) $ fjoin ! $
    nothing ! $ move ! (2 ∷ 0 ∷ []) $ join ! $ frame ! $ frame ! $ feq_i ! _ (vunit ∷ []) _ refl $ done !)))))))
