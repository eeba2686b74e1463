-- What a struct of meanings holds.
use Rattle.model.specs.Table.{Tables, tables_of}
use Rattle.meaning.specs.declared.Meanings.{Meanings}

-- what is read of its type and tag tables
abbrev pub tables : Meanings → Tables
tables m = tables_of m.types.now m.tags.now
