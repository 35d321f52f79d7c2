-- A `&` to the block reaches each cell. Assumes `Logic`.
use denote.Param.Shared.{copy_shared}
use denote.Struct.Field.{RawPtr-field}
use denote.Struct.Laws.{RawPtr-copy}
use denote.Struct.Lending.{of_Lends}
use Rattle.execlist.specs.contracts.block.Block as C
use Rattle.execlist.proofs.{block.Block.TheLaw.Statement.statement, Memory.block_lent_laws, Memory.Lends-block}

pub shares : statement
shares = of_Lends C.struct C.the_codes C.the_heap C.the_lent (λ d p. block_lent_laws d.base d.capacity d.links) (copy_shared RawPtr-field RawPtr-copy, tt)
    (λ M 𝓤 𝓛 d p. Lends-block 𝓛 (C.the_row).lives d.base d.capacity d.links)
