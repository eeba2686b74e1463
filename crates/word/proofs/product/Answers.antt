-- `word::product` meets its contract: the whole product fits 64 bits, and its remainder is kept.
use Rattle.std.proofs.Common.{rules}
use Rattle.word.proofs.Width.{product-fits}
use Rattle.word.proofs.product.Goals as goal

pub overflow_mul-whole : goal.overflow_mul-whole
overflow_mul-whole c = record { fits = product-fits 32 (search rules) (search rules) }
