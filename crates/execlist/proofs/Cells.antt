-- A cell as the element of a row of places, as a call names it: by its layout.
use mathlib.Core.Path.{refl}
use denote.Exit.{no}
use denote.Param.{arg}
use denote.Param.Laws.{arg_laws}
use Rattle.core.proofs.mem.Param.{El}
use Rattle.execlist.specs.{Ownership.cell_type, contracts.block.Cell.the_row}
use Rattle.execlist.proofs.block.Cell.TheLaws.{the_row_laws}

abbrev pub E : El
E = record { row = arg cell_type no the_row; laws = arg_laws cell_type no the_row the_row_laws refl }
