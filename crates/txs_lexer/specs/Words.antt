-- The reserved words and the symbols. The number of each is its place in its list, counted from 0.
use Rattle.std.specs.Prelude.{◌≡◌, ℕ, List, [], ◌∷◌, Some, map, slice_get, codes}
use Rattle.txs_lexer.specs.declared.word.TheConstants.{TYPEDEF, FUNCDEF, CONSTDEF, CHANDEF, PROCDEF, STAUTDEF, MODELDEF, PURPDEF, CNECTDEF, ENDDEF, CHAN, IN, OUT, SYNC, BEHAVIOUR, STATE, VAR, INIT, TRANS, GOAL, CLIENTSOCK, SERVERSOCK, HOST, PORT, ENCODE, DECODE, STOP, EXIT, HIT, MISS, ISTEP, ACCEPT, NI, HIDE, LET, IF, THEN, ELSE, FI, QUIET}
use Rattle.txs_lexer.specs.declared.symbol.TheConstants.{DEFINES, THEN_GO, ENABLES, DISABLES, INTERRUPTS, INTERLEAVES, SYNCHRONISES, SYNC_OPENS, SYNC_CLOSES, CHOICE, GUARD_OPENS, GUARD_CLOSES, GUARDS, ARROW, BACK_ARROW, HAS_TYPE, BECOMES, EQUAL, DIFFERENT, AT_MOST, AT_LEAST, LESS, MORE, JOIN, PLUS, MINUS, TIMES, DIVIDE, REMAINDER, AND, OR, IS, OFFERS, TAKES, BAR, HASH, OPEN, CLOSE, BRACKET_OPENS, BRACKET_CLOSES, BRACE_OPENS, BRACE_CLOSES, COMMA, SEMICOLON}

abbrev pub words : List (List ℕ)
words =
    codes "TYPEDEF" ∷ codes "FUNCDEF" ∷ codes "CONSTDEF" ∷ codes "CHANDEF" ∷ codes "PROCDEF" ∷
    codes "STAUTDEF" ∷ codes "MODELDEF" ∷ codes "PURPDEF" ∷ codes "CNECTDEF" ∷ codes "ENDDEF" ∷
    codes "CHAN" ∷ codes "IN" ∷ codes "OUT" ∷ codes "SYNC" ∷ codes "BEHAVIOUR" ∷
    codes "STATE" ∷ codes "VAR" ∷ codes "INIT" ∷ codes "TRANS" ∷ codes "GOAL" ∷
    codes "CLIENTSOCK" ∷ codes "SERVERSOCK" ∷ codes "HOST" ∷ codes "PORT" ∷ codes "ENCODE" ∷
    codes "DECODE" ∷ codes "STOP" ∷ codes "EXIT" ∷ codes "HIT" ∷ codes "MISS" ∷
    codes "ISTEP" ∷ codes "ACCEPT" ∷ codes "NI" ∷ codes "HIDE" ∷ codes "LET" ∷
    codes "IF" ∷ codes "THEN" ∷ codes "ELSE" ∷ codes "FI" ∷ codes "QUIET" ∷ []

abbrev pub symbols : List (List ℕ)
symbols =
    codes "::=" ∷ codes ">->" ∷ codes ">>>" ∷ codes "[>>" ∷ codes "[><" ∷ codes "|||" ∷
    codes "||" ∷ codes "|[" ∷ codes "]|" ∷ codes "##" ∷ codes "[[" ∷ codes "]]" ∷
    codes "=>>" ∷ codes "->" ∷ codes "<-" ∷ codes "::" ∷ codes ":=" ∷ codes "==" ∷
    codes "<>" ∷ codes "<=" ∷ codes ">=" ∷ codes "<" ∷ codes ">" ∷ codes "++" ∷
    codes "+" ∷ codes "-" ∷ codes "*" ∷ codes "/" ∷ codes "%" ∷ codes "/\\" ∷
    codes "\\/" ∷ codes "=" ∷ codes "!" ∷ codes "?" ∷ codes "|" ∷ codes "#" ∷
    codes "(" ∷ codes ")" ∷ codes "[" ∷ codes "]" ∷ codes "{" ∷ codes "}" ∷
    codes "," ∷ codes ";" ∷ []

-- the names of the numbers in the code and in the grammar, each with what it names
abbrev pub named_words : List (ℕ × List ℕ)
named_words =
    (TYPEDEF, codes "TYPEDEF") ∷ (FUNCDEF, codes "FUNCDEF") ∷ (CONSTDEF, codes "CONSTDEF") ∷ (CHANDEF, codes "CHANDEF") ∷
    (PROCDEF, codes "PROCDEF") ∷ (STAUTDEF, codes "STAUTDEF") ∷ (MODELDEF, codes "MODELDEF") ∷ (PURPDEF, codes "PURPDEF") ∷
    (CNECTDEF, codes "CNECTDEF") ∷ (ENDDEF, codes "ENDDEF") ∷ (CHAN, codes "CHAN") ∷ (IN, codes "IN") ∷
    (OUT, codes "OUT") ∷ (SYNC, codes "SYNC") ∷ (BEHAVIOUR, codes "BEHAVIOUR") ∷ (STATE, codes "STATE") ∷
    (VAR, codes "VAR") ∷ (INIT, codes "INIT") ∷ (TRANS, codes "TRANS") ∷ (GOAL, codes "GOAL") ∷
    (CLIENTSOCK, codes "CLIENTSOCK") ∷ (SERVERSOCK, codes "SERVERSOCK") ∷ (HOST, codes "HOST") ∷ (PORT, codes "PORT") ∷
    (ENCODE, codes "ENCODE") ∷ (DECODE, codes "DECODE") ∷ (STOP, codes "STOP") ∷ (EXIT, codes "EXIT") ∷
    (HIT, codes "HIT") ∷ (MISS, codes "MISS") ∷ (ISTEP, codes "ISTEP") ∷ (ACCEPT, codes "ACCEPT") ∷
    (NI, codes "NI") ∷ (HIDE, codes "HIDE") ∷ (LET, codes "LET") ∷ (IF, codes "IF") ∷
    (THEN, codes "THEN") ∷ (ELSE, codes "ELSE") ∷ (FI, codes "FI") ∷ (QUIET, codes "QUIET") ∷ []

abbrev pub named_symbols : List (ℕ × List ℕ)
named_symbols =
    (DEFINES, codes "::=") ∷ (THEN_GO, codes ">->") ∷ (ENABLES, codes ">>>") ∷ (DISABLES, codes "[>>") ∷
    (INTERRUPTS, codes "[><") ∷ (INTERLEAVES, codes "|||") ∷ (SYNCHRONISES, codes "||") ∷ (SYNC_OPENS, codes "|[") ∷
    (SYNC_CLOSES, codes "]|") ∷ (CHOICE, codes "##") ∷ (GUARD_OPENS, codes "[[") ∷ (GUARD_CLOSES, codes "]]") ∷
    (GUARDS, codes "=>>") ∷ (ARROW, codes "->") ∷ (BACK_ARROW, codes "<-") ∷ (HAS_TYPE, codes "::") ∷
    (BECOMES, codes ":=") ∷ (EQUAL, codes "==") ∷ (DIFFERENT, codes "<>") ∷ (AT_MOST, codes "<=") ∷
    (AT_LEAST, codes ">=") ∷ (LESS, codes "<") ∷ (MORE, codes ">") ∷ (JOIN, codes "++") ∷
    (PLUS, codes "+") ∷ (MINUS, codes "-") ∷ (TIMES, codes "*") ∷ (DIVIDE, codes "/") ∷
    (REMAINDER, codes "%") ∷ (AND, codes "/\\") ∷ (OR, codes "\\/") ∷ (IS, codes "=") ∷
    (OFFERS, codes "!") ∷ (TAKES, codes "?") ∷ (BAR, codes "|") ∷ (HASH, codes "#") ∷
    (OPEN, codes "(") ∷ (CLOSE, codes ")") ∷ (BRACKET_OPENS, codes "[") ∷ (BRACKET_CLOSES, codes "]") ∷
    (BRACE_OPENS, codes "{") ∷ (BRACE_CLOSES, codes "}") ∷ (COMMA, codes ",") ∷ (SEMICOLON, codes ";") ∷ []

-- each name is the number of what it names
abbrev pub AreNumbers : List (ℕ × List ℕ) → List (List ℕ) → Type 0
AreNumbers names texts = map (λ n. slice_get texts n.0) names ≡ map (λ n. Some n.1) names
