-- A `&` to a block reaches each word that can be read. Assumes `Logic`.

use denote.Param.Shared.{copy_shared}
use denote.Struct.Field.{RawPtr-field, usize-field}
use denote.Struct.Laws.{RawPtr-copy, usize-copy}
use denote.Struct.Lending.{of_Lends}
use Rattle.word_pool.specs.contracts.block.Block as C
use Rattle.word_pool.proofs.block.Block.TheLaw.Statement.{statement}
use Rattle.word_pool.proofs.BlockIsLent.{block_lent_laws, Lends-block}

pub shares : statement
shares =
    of_Lends C.struct C.the_codes C.the_heap C.the_lent (λ d p. block_lent_laws d.start d.words d.content)
    (copy_shared RawPtr-field RawPtr-copy, (copy_shared usize-field usize-copy, tt))
    (λ M 𝓤 𝓛 d p. Lends-block 𝓛 d.start d.words d.content)
