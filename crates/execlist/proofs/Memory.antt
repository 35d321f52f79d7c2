-- One cell is taken out of the block, and put back. Assumes `Logic`.
use mathlib.Core.Path.{◌≡◌, refl, sym, ap, subst, ◌∙◌}
use Prim.Native.Nat.{ℕ, zero, suc, ◌+◌, ◌*◌, ◌<◌, ◌^◌, ◌-◌}
use native.Mathlib.Omega.{arith}
use mathlib.Core.List.{List, [], ◌∷◌, ◌++◌}
use lib.ListN.{length, set, get_or, length-set}
use seplogic.Ra.Ura.{Ura}
use base.Fml.{Fml, Share, Lft, fat, flft, ftrue, froom, ffalse, fsep}
use mir.Syntax.{w32, ty_ptr}
use mir.Val.{Val, vint, vptr}
use base.Logic.{ent, emp, SProp, sep, via}
use types.Logic.{Logic, sem}
use types.Kit.{Item, Goal, Soaks, Seq, Step, step, ‵, ◌$◌, move, drop, use0, rewrite, feq_i, feq_l, prop, raw, frame, ◌⊛◌, some, ◌∵◌, !, qed, use1, use2, split, pick, fsplit, fjoin, done}
use denote.Laws.{Is, shows, Tells}
use denote.Plain.{uint_vals, uint_Tells, uint_row_laws}
use denote.RawPtr.{Ptr, RawPtr, block_ptr, ptr_val, coded_ptr, ptr_own, rawptr_pure, rawptr_vals, rawptr_Tells, null_ptr, ptr_row_laws}
use denote.Copied.{plain_Copied, Copied, Struct-Copied, uint_Copied}
use denote.Opens.{Shut}
use denote.Steps.{looks, shuts, nothing}
use denote.Shadow.{makes_shadow}
use denote.Memory.{shares, cell_at, part_at, hidden_shr, shared_of}
use denote.Index.{row, others, place_is, elem_out, elem_put, elem_back}
use denote.Struct.Struct.{Struct-Tells, Struct-row_laws}
use Rattle.execlist.specs.Ownership.{cell_shape, cell_row, cell_type, cell_val, cell_of, laid, block_type, cells_own, fit, block_own, block_lent}
use Rattle.execlist.specs.Links.{Link, no_link, link_at, set_next, set_prev, set_home, linked, unlinked}
use base.Fraction.{full_share}
use contract.Monad.{fact, fact_i}
use borrow.Table.OneValue.{part_out}
use denote.RattleType.{RowLaws}
use denote.Sharing.{ShrLaws, said}
use denote.SharingLaws.{beside_shr_laws, said_shr_laws}
use denote.Slice.{elements_shared, elements_shr_laws}
use denote.Shares.{shares_each_from}
use denote.Struct.Lending.{Lends, Lends-both, Lends-first, Lends-said, Lends-false}

pub laid-length : (b o k : ℕ) (ls : List Link) → length (laid b o k ls) ≡ length ls
laid-length b o k [] = refl
laid-length b o k (l ∷ ls) = ap suc (laid-length b o (suc k) ls)

pub laid-get : (b o k : ℕ) (ls : List Link) (i : ℕ) (d : cell_row.Denot) → i < length ls → get_or (laid b o k ls) i d ≡ cell_of b o (i + k) (link_at ls i)
laid-get b o k [] i d p = absurd (omega arith)
laid-get b o k (l ∷ ls) zero d p = ap (λ (n : ℕ). cell_of b o n l) (omega arith)
laid-get b o k (l ∷ ls) (suc i) d p = laid-get b o (suc k) ls i d (omega arith) ∙ ap (λ (n : ℕ). cell_of b o n (link_at ls i)) (omega arith)

pub laid-set : (b o k : ℕ) (ls : List Link) (i : ℕ) (l : Link) → set (laid b o k ls) i (cell_of b o (i + k) l) ≡ laid b o k (set ls i l)
laid-set b o k [] i l = refl
laid-set b o k (m ∷ ls) zero l = ap (λ (n : ℕ). cell_of b o n l ∷ laid b o (suc k) ls) (omega arith)
laid-set b o k (m ∷ ls) (suc i) l = ap (λ (n : ℕ). cell_of b o k m ∷ set (laid b o (suc k) ls) i (cell_of b o n l)) (omega arith) ∙ ap (λ (xs : List cell_row.Denot). cell_of b o k m ∷ xs) (laid-set b o (suc k) ls i l)

pub cell_Tells : Tells cell_row (Is cell_row) (λ x. cell_val x ∷ [])
cell_Tells = Struct-Tells cell_shape (rawptr_vals, (rawptr_vals, (uint_vals w32, (uint_vals w32, tt)))) (rawptr_Tells, (rawptr_Tells, (uint_Tells w32, (uint_Tells w32, tt))))

pub cell_made : {M : Type 1} {𝓤 : Ura M} (𝓛 : Logic 𝓤) (x : cell_row.Denot) → x.1.1.0 < 2 ^ 32 → x.1.1.1.0 < 2 ^ 32 → ent 𝓤 (emp 𝓤) (sem 𝓛 (cell_row.own_val x (cell_val x ∷ [])))
cell_made 𝓛 x p q = makes_shadow 𝓛 (cell_row.own_val x (cell_val x ∷ [])) (λ _. (tt, (tt, (tt, ((tt, tt), ((tt, tt), tt))))))
    ((ptr_val x.0 ∷ [], (ptr_val x.1.0 ∷ [], (vint w32 x.1.1.0 ∷ [], (vint w32 x.1.1.1.0 ∷ [], tt)))), (refl, (refl, (refl, ((refl, p), ((refl, q), tt))))))

-- the cells but for the i-th
abbrev pub besides : Share → ℕ → ℕ → List Link → ℕ → Fml
besides q b o ls i = others (shares cell_row) q (laid b o 0 ls) i b o

abbrev pub some_cells : Share → ℕ → ℕ → List Link → Fml
some_cells q b o ls = row cell_row q (laid b o 0 ls) b o

module _ {M : Type 1} {𝓤 : Ura M} {𝓛 : Logic 𝓤} {K : Type 0} {Γ : List (Item 𝓤)} {G : Goal 𝓤 𝓛.H} where
  pub cell_taken : K → (q : Share) (b o : ℕ) (ls : List Link) (i : ℕ) → i < length ls
      → ((link_at ls i).home < 2 ^ 32 → Seq K 𝓛 (‵ (fat q cell_type b (i * 24 + o) (cell_val (cell_of b o i (link_at ls i)))) ∷ ‵ (besides q b o ls i) ∷ Γ) G)
      → Seq K 𝓛 (‵ (some_cells q b o ls) ∷ Γ) G
  cell_taken t q b o ls i within k =
      let xs = laid b o 0 ls in let d = cell_of b o 0 no_link in
      let is : get_or xs i d ≡ cell_of b o i (link_at ls i) = laid-get b o 0 ls i d within ∙ ap (λ (n : ℕ). cell_of b o n (link_at ls i)) (omega arith) in
      elem_out t cell_row (Is cell_row) (shows 𝓛 cell_row) (λ x. cell_val x ∷ []) cell_Tells q xs i d b o (subst (λ (n : ℕ). i < n) (sym (laid-length b o 0 ls)) within) (λ p.
      let fits = subst (λ (x : cell_row.Denot). x.1.1.1.0 < 2 ^ 32) is p.1.1.1.1.1.0.1 in
      move t (1 ∷ []) $ drop t $ rewrite t 0 (λ (x : cell_row.Denot × ℕ). ‵ (fat q cell_type b x.1 (cell_val x.0))) (λ j. (is j, place_is 24 o i j)) refl $ k fits)

  pub cell_given : K → (q : Share) (b o : ℕ) (ls : List Link) (i : ℕ) (l : Link) → i < length ls → i < 2 ^ 32 → l.home < 2 ^ 32
      → Step K 𝓛 (‵ (some_cells q b o (set ls i l)) ∷ Γ) G (‵ (fat q cell_type b (i * 24 + o) (cell_val (cell_of b o i l))) ∷ ‵ (besides q b o ls i) ∷ Γ) G
  cell_given t q b o ls i l within small fits = step (λ s.
      let xs = laid b o 0 ls in let x = cell_of b o i l in
      let is : set xs i x ≡ laid b o 0 (set ls i l) = ap (λ (n : ℕ). set xs i (cell_of b o n l)) (omega arith) ∙ laid-set b o 0 ls i l in
      rewrite t 0 (λ (n : ℕ). ‵ (fat q cell_type b n (cell_val x))) (sym (place_is 24 o i)) refl $
      use0 𝓛 (‵ (cell_row.own_val x (cell_val x ∷ []))) (cell_made 𝓛 x small fits) $ move t (1 ∷ 0 ∷ []) $
      elem_put t cell_row q xs i x (cell_val x ∷ []) b o (subst (λ (n : ℕ). i < n) (sym (laid-length b o 0 ls)) within) $
      rewrite t 0 (λ (ys : List cell_row.Denot). ‵ (row cell_row q ys b o)) is refl $ s)

  -- it is put back as it was
  pub cell_back : K → (q : Share) (b o : ℕ) (ls : List Link) (i : ℕ) → i < length ls → i < 2 ^ 32 → (link_at ls i).home < 2 ^ 32
      → Step K 𝓛 (‵ (some_cells q b o ls) ∷ Γ) G (‵ (fat q cell_type b (i * 24 + o) (cell_val (cell_of b o i (link_at ls i)))) ∷ ‵ (besides q b o ls i) ∷ Γ) G
  cell_back t q b o ls i within small fits = step (λ s.
      let xs = laid b o 0 ls in let x = cell_of b o i (link_at ls i) in let d = cell_of b o 0 no_link in
      let is : get_or xs i d ≡ x = laid-get b o 0 ls i d within ∙ ap (λ (n : ℕ). cell_of b o n (link_at ls i)) (omega arith) in
      rewrite t 0 (λ (n : ℕ). ‵ (fat q cell_type b n (cell_val x))) (sym (place_is 24 o i)) refl $
      use0 𝓛 (‵ (cell_row.own_val x (cell_val x ∷ []))) (cell_made 𝓛 x small fits) $
      rewrite t 0 (λ (y : cell_row.Denot). ‵ (cell_row.own_val y (cell_val x ∷ []))) (sym is) refl $ move t (1 ∷ 0 ∷ []) $
      elem_back t cell_row q xs i d (cell_val x ∷ []) b o (subst (λ (n : ℕ). i < n) (sym (laid-length b o 0 ls)) within) $ s)

module _ {M : Type 1} {𝓤 : Ura M} {𝓛 : Logic 𝓤} {K : Type 0} {Γ : List (Item 𝓤)} {G : Goal 𝓤 𝓛.H} where
  -- a pointer after a `&` is looked at: [the pointer; the way back]
  pub pointer_in : K → Soaks G → {κ : Lft} {q : Share} (p : Ptr) (pb po : ℕ) → p ≡ block_ptr pb po → (b at : ℕ)
      → ((q' : Share) → Seq K 𝓛 (‵ (fat q' ty_ptr b at (vptr pb po)) ∷ Shut 𝓛 κ q (part_at RawPtr q' p b at) ∷ Γ) G) → Seq K 𝓛 (‵ (hidden_shr RawPtr κ p b at) ∷ ‵ (flft κ q) ∷ Γ) G
  pointer_in t z p pb po is b at k =
      looks t z RawPtr (plain_Copied 𝓛 Ptr coded_ptr (ty_ptr ∷ []) ptr_own rawptr_pure ptr_val rawptr_Tells).opens p b at (λ q' vs. move t (1 ∷ []) $ feq_l t (λ e.
      rewrite t 0 (λ (us : List Val). ‵ (cell_at q' RawPtr.mir us b at)) (e ∙ ap (λ (r : Ptr). ptr_val r ∷ []) is) refl $ move t (2 ∷ []) $ drop t $ k q'))

  pub pointer_out : K → Soaks G → {κ : Lft} {q q' : Share} (p : Ptr) (pb po : ℕ) → p ≡ block_ptr pb po → (b at : ℕ)
      → Step K 𝓛 (‵ (flft κ q) ∷ Γ) G (‵ (fat q' ty_ptr b at (vptr pb po)) ∷ Shut 𝓛 κ q (part_at RawPtr q' p b at) ∷ Γ) G
  pointer_out t z {q' = q'} p pb po is b at = step (λ s.
      feq_i t (List Val) (vptr pb po ∷ []) (ptr_val p ∷ []) (ap (λ (r : Ptr). ptr_val r ∷ []) (sym is)) $ move t (1 ∷ 0 ∷ []) $ shuts t z RawPtr q' p (vptr pb po ∷ []) b at $ s)

pub linked-length : (a c b h : ℕ) (ls : List Link) → length (linked a c b h ls) ≡ length ls
linked-length a c b h ls =
    let l1 = set_next c b ls in let l2 = set_prev c a l1 in let l3 = set_home c h l2 in let l4 = set_next a c l3 in
    length-set l4 b (record (link_at l4 b) { prev = c }) ∙ length-set l3 a (record (link_at l3 a) { next = c }) ∙ length-set l2 c (record (link_at l2 c) { home = h })
    ∙ length-set l1 c (record (link_at l1 c) { prev = a }) ∙ length-set ls c (record (link_at ls c) { next = b })

pub unlinked-length : (c : ℕ) (ls : List Link) → length (unlinked c ls) ≡ length ls
unlinked-length c ls =
    let n = (link_at ls c).next in let p = (link_at ls c).prev in let l1 = set_next p n ls in let l2 = set_prev n p l1 in
    length-set l2 c (record (link_at l2 c) { home = 0 }) ∙ length-set l1 n (record (link_at l1 n) { prev = p }) ∙ length-set ls p (record (link_at ls p) { next = n })

-- ---- the cells and the room after them are room. Assumes `Logic`

module _ {M : Type 1} {𝓤 : Ura M} (𝓛 : Logic 𝓤) (b o : ℕ) where
  open 𝓛 use {H}

  pub cells_room : (k : ℕ) (ls : List Link) (p at n : ℕ) → at ≡ length ls * 24 + p
      → ent 𝓤 (sep 𝓤 (sem 𝓛 (row cell_row full_share (laid b o k ls) b p)) (sem 𝓛 (froom (block_type n) b at))) (sem 𝓛 (froom (block_type (length ls + n)) b p))
  cells_room k [] p at n e = let here : at ≡ p = e ∙ omega arith in let same : n ≡ 0 + n = omega arith in
      qed 𝓛 (‵ ftrue ∷ ‵ (froom (block_type n) b at) ∷ []) ∵ drop ! $ rewrite ! 0 (λ (u : ℕ × ℕ). ‵ (froom (block_type u.0) b u.1)) (λ i. (same i, here i)) refl $ done !
  cells_room k (l ∷ ls) p at n e = let next : at ≡ length ls * 24 + (p + 24) = e ∙ omega arith in let more : suc (length ls + n) ≡ suc (length ls) + n = omega arith in
      qed 𝓛 (‵ (row cell_row full_share (laid b o k (l ∷ ls)) b p) ∷ ‵ (froom (block_type n) b at) ∷ []) ∵ fsplit ! $
      use1 𝓛 (some (λ (v : Val). ‵ (fat full_share cell_type b p v) ⊛ ‵ (cell_row.own_val (cell_of b o k l) (v ∷ [])))) (part_out 𝓛 cell_row refl full_share (cell_of b o k l) b p) $ pick ! (λ v. split ! $
      use1 𝓛 (‵ (froom cell_type b p)) (𝓛.laws.at_room cell_type b p v) $ move ! (1 ∷ []) $ drop ! $ move ! (1 ∷ 2 ∷ []) $
      use2 𝓛 (‵ (froom (block_type (length ls + n)) b (p + 24))) (cells_room (suc k) ls (p + 24) at n next) $ move ! (1 ∷ 0 ∷ []) $
      use2 𝓛 (‵ (froom (block_type (suc (length ls + n))) b p)) (𝓛.laws.room_cons cell_type (length ls + n) b p) $
      rewrite ! 0 (λ (u : ℕ). ‵ (froom (block_type u) b p)) more refl $ done !)

  -- one more cell, right after the others
  pub cells_push : (k : ℕ) (ls : List Link) (p at i : ℕ) (l : Link) → at ≡ length ls * 24 + p → i ≡ length ls + k
      → ent 𝓤 (sep 𝓤 (sem 𝓛 (row cell_row full_share (laid b o k ls) b p)) (sem 𝓛 (part_at cell_row full_share (cell_of b o i l) b at))) (sem 𝓛 (row cell_row full_share (laid b o k (ls ++ l ∷ [])) b p))
  cells_push k [] p at i l e n = let here : at ≡ p = e ∙ omega arith in let same : i ≡ k = n ∙ omega arith in
      qed 𝓛 (‵ ftrue ∷ ‵ (part_at cell_row full_share (cell_of b o i l) b at) ∷ []) ∵ drop ! $ rewrite ! 0 (λ (u : ℕ × ℕ). ‵ (part_at cell_row full_share (cell_of b o u.0 l) b u.1)) (λ j. (same j, here j)) refl $
      nothing ! $ move ! (1 ∷ 0 ∷ []) $ fjoin ! $ done !
  cells_push k (m ∷ ls) p at i l e n = let next : at ≡ length ls * 24 + (p + 24) = e ∙ omega arith in let more : i ≡ length ls + suc k = n ∙ omega arith in
      qed 𝓛 (‵ (row cell_row full_share (laid b o k (m ∷ ls)) b p) ∷ ‵ (part_at cell_row full_share (cell_of b o i l) b at) ∷ []) ∵ fsplit ! $ move ! (1 ∷ 2 ∷ []) $
      use2 𝓛 (‵ (row cell_row full_share (laid b o (suc k) (ls ++ l ∷ [])) b (p + 24))) (cells_push (suc k) ls (p + 24) at i l next more) $ move ! (1 ∷ 0 ∷ []) $ fjoin ! $ done !

module _ {M : Type 1} {𝓤 : Ura M} {𝓛 : Logic 𝓤} {K : Type 0} {Γ : List (Item 𝓤)} where
  -- an `ensures` of two facts
  pub says_both : K → {φ ψ : Type 0} {P : SProp 𝓤} → φ → ψ → Step K 𝓛 Γ (prop P) Γ (prop (sep 𝓤 P (sep 𝓤 (fact 𝓤 φ) (fact 𝓤 ψ))))
  says_both t {φ} {ψ} {P} x y = step (λ s. record {
    prf = via 𝓤 P s.prf (qed 𝓛 (raw P ∷ []) {P = sep 𝓤 P (sep 𝓤 (fact 𝓤 φ) (fact 𝓤 ψ))} (
        frame ! $ use0 𝓛 (raw (fact 𝓤 ψ)) (fact_i 𝓤 ψ (emp 𝓤) y) $ use0 𝓛 (raw (fact 𝓤 φ)) (fact_i 𝓤 φ (emp 𝓤) x) $ done !));
  })

-- ---- a `&` to the block reaches each cell. Assumes `Logic`

pub cell_row_laws : RowLaws cell_row
cell_row_laws = Struct-row_laws cell_shape (ptr_row_laws, (ptr_row_laws, (uint_row_laws w32, (uint_row_laws w32, tt))))

module _ {M : Type 1} {𝓤 : Ura M} (𝓛 : Logic 𝓤) where
  ptr_Copied : Copied 𝓛 RawPtr
  ptr_Copied = plain_Copied 𝓛 Ptr coded_ptr RawPtr.mir ptr_own rawptr_pure ptr_val rawptr_Tells

  pub cell_Copied : Copied 𝓛 cell_row
  cell_Copied = Struct-Copied 𝓛 cell_shape (refl, (refl, (refl, (refl, tt)))) (ptr_Copied, (ptr_Copied, (uint_Copied 𝓛 w32, (uint_Copied 𝓛 w32, tt))))

pub block_lent_laws : (p : Ptr) (n : ℕ) (ls : List Link) → ShrLaws (block_lent p n ls)
block_lent_laws (block_ptr b o) n ls = beside_shr_laws _ _ (said_shr_laws (fit n) tt) (elements_shr_laws cell_row cell_row_laws (laid b o 0 ls) b o)
block_lent_laws null_ptr n ls = said_shr_laws ffalse tt

module _ {M : Type 1} {𝓤 : Ura M} (𝓛 : Logic 𝓤) (l : Lft) where
  pub Lends-block : (p : Ptr) (n : ℕ) (ls : List Link) → Lends 𝓛 (block_own p n ls) (block_lent p n ls) l
  Lends-block (block_ptr b o) n ls =
      let rest = froom (block_type (n - length ls)) b (length ls * 24 + o) in let seen = elements_shared cell_row (laid b o 0 ls) b o in
      Lends-both 𝓛 (fit n) (fsep (cells_own b o ls) rest) (said (fit n)) seen l (Lends-said 𝓛 (fit n) tt l)
      (Lends-first 𝓛 (cells_own b o ls) rest seen l (λ κ ts inc sp. shares_each_from 𝓛 full_share cell_row (shared_of cell_row) l ((cell_Copied 𝓛).shares full_share l) (laid b o 0 ls) κ ts b o inc sp))
  Lends-block null_ptr n ls = Lends-false 𝓛 (said ffalse) l
