-- What a block of cells owns and lends.
use Rattle.std.specs.Prelude.{ℕ, suc, ◌+◌, ◌-◌, ◌*◌, ◌^◌, List, [], ◌∷◌, length}
use base.Fraction.{full_share}
use base.Fml.{Lft, Fml, ffalse, fsep, flt, froom}
use mir.Syntax.{Ty, ty_ptr, ty_int, ty_struct, ty_array, tcons, tnil, w32}
use mir.Val.{Val, vint, vstruct, vcons, vnil}
use denote.RattleType.{RattleType}
use denote.Builtin.{u32}
use denote.Index.{row}
use denote.RawPtr.{Ptr, RawPtr, block_ptr, null_ptr, ptr_val}
use denote.Sharing.{said, beside}
use denote.Slice.{elements_shared}
use denote.Struct.Struct.{Struct, Shape}
use Rattle.execlist.specs.Links.{Link}

-- a cell, by its fields alone
abbrev pub cell_shape : Shape
cell_shape = record { name = []; args = []; types = []; fields = RawPtr ∷ RawPtr ∷ u32 ∷ u32 ∷ [] }

abbrev pub cell_row : RattleType
cell_row = Struct cell_shape

abbrev pub cell_type : Ty
cell_type = ty_struct [] (tcons ty_ptr (tcons ty_ptr (tcons (ty_int w32) (tcons (ty_int w32) tnil))))

abbrev pub cell_val : cell_row.Denot → Val
cell_val x = vstruct (vcons (ptr_val x.0) (vcons (ptr_val x.1.0) (vcons (vint w32 x.1.1.0) (vcons (vint w32 x.1.1.1.0) vnil))))

-- where cell i lies
abbrev pub cell_ptr : ℕ → ℕ → ℕ → Ptr
cell_ptr b o i = block_ptr b (i * 24 + o)

-- what cell k holds
abbrev pub cell_of : ℕ → ℕ → ℕ → Link → cell_row.Denot
cell_of b o k l = (cell_ptr b o l.next, (cell_ptr b o l.prev, (k, (l.home, tt))))

-- what the cells hold, from number k on
abbrev pub laid : ℕ → ℕ → ℕ → List Link → List cell_row.Denot
laid b o k [] = []
laid b o k (l ∷ ls) = cell_of b o k l ∷ laid b o (suc k) ls

abbrev pub cells_own : ℕ → ℕ → List Link → Fml
cells_own b o ls = row cell_row full_share (laid b o 0 ls) b o

-- a block for n cells
abbrev pub block_type : ℕ → Ty
block_type n = ty_array cell_type n

abbrev pub fit : ℕ → Fml
fit n = flt n (2 ^ 32)

-- the cells, and room for the rest of the n
abbrev pub block_own : Ptr → ℕ → List Link → Fml
block_own (block_ptr b o) n ls = fsep (fit n) (fsep (cells_own b o ls) (froom (block_type (n - length ls)) b (length ls * 24 + o)))
block_own null_ptr n ls = ffalse

abbrev pub block_lent : Ptr → ℕ → List Link → Lft → Fml
block_lent (block_ptr b o) n ls = beside (said (fit n)) (elements_shared cell_row (laid b o 0 ls) b o)
block_lent null_ptr n ls = said ffalse
