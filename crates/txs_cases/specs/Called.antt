-- Whether constructors are called by names.
use Rattle.std.specs.Prelude.{ℕ, Bool, true, false, ◌&&◌, List, [], ◌∷◌}
use Rattle.std.specs.List.{list_all}
use Rattle.txs_values.specs.Spelling.{is_letter, is_name_byte}
use Rattle.txs_syntax.specs.declared.file.ConDef.{ConDef}
use Rattle.txs_syntax.specs.declared.file.Def.{Def}
use Rattle.txs_syntax.specs.declared.file.Def.TheVariants as def

-- a letter, and then letters, digits and `_`
abbrev pub is_name : List ℕ → Bool
is_name [] = false
is_name (b ∷ bs) = is_letter b && list_all is_name_byte bs

abbrev pub is_called_by_name : ConDef → Bool
is_called_by_name c = is_name c.name.text

-- each constructor of the definition is called by a name
abbrev pub has_names : Def → Bool
has_names (def.TypeDef x cs) = list_all is_called_by_name cs
has_names (def.FuncDef x ps r e) = true
has_names (def.ConstDef x t e) = true
