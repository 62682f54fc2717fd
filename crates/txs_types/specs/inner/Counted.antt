-- The names of definitions that stand after others.
use Rattle.std.specs.Prelude.{suc, ◌+◌, List, length}
use Rattle.txs_syntax.specs.declared.ast.Name.{Name}
use Rattle.txs_syntax.specs.declared.file.Def.{Def}
use Rattle.txs_syntax.specs.declared.file.Def.TheVariants as def
use Rattle.txs_types.specs.declared.file_names.Counts.{Counts}
use Rattle.txs_typing.specs.Names.{Global}
use Rattle.txs_types.specs.Files.{globals_in}

-- how many there are after the definition, if so many stand before it
abbrev pub counts_after : Counts → Def → Counts
counts_after c (def.TypeDef x cs) = record { types = suc c.types; constructors = c.constructors + length cs; functions = c.functions; constants = c.constants }
counts_after c (def.FuncDef x ps r e) = record { types = c.types; constructors = c.constructors; functions = suc c.functions; constants = c.constants }
counts_after c (def.ConstDef x t e) = record { types = c.types; constructors = c.constructors; functions = c.functions; constants = suc c.constants }

-- what definitions let names mean, if so many stand before them
abbrev pub globals_from : List Name → Counts → List Def → List Global
globals_from types c ds = globals_in types c.types c.constructors c.functions c.constants ds
