-- What is kept of the symbols of a source, in a lent list.
use Rattle.std.specs.Prelude.{ℕ, Bool, cond, List, ◌++◌, map, length, drop, replicate, Some, None, Ok, Err, Option, Result, nat_lt}
use Rattle.faults.specs.declared.kind.FaultKind.TheVariants.{ListTooShort, SourceTooLong}
use Rattle.faults.specs.declared.kind.Fault.{Fault}
use Rattle.vocabulary.specs.declared.tag.Tag.TheVariants.{EndOfSource}
use Rattle.lexer.specs.declared.symbol.SymbolRecord.{SymbolRecord}
use Rattle.lexer.specs.Scan.{Found, fault, symbols_from, symbols_of, symbol_limit, byte_limit}

-- what is kept of a symbol
abbrev pub record_of : Found → SymbolRecord
record_of f = record { tag = f.tag; place = f.place }

-- the same, but nothing of the end
abbrev pub kept : Bool → Found → Option SymbolRecord
kept end f = cond end None (Some (record_of f))

-- a record that keeps nothing
abbrev pub zero_record : SymbolRecord
zero_record = record { tag = EndOfSource; place = 0 }

-- what is kept of all symbols
abbrev pub recorded : Result (List Found) Fault → Result (List SymbolRecord) Fault
recorded (Ok fs) = Ok (map record_of fs)
recorded (Err e) = Err e

-- what is kept of a source that may have so many symbols, or its first fault; too long a source is not read
abbrev pub records_of : ℕ → List ℕ → Result (List SymbolRecord) Fault
records_of limit s = cond (nat_lt byte_limit (length s)) (Err (fault SourceTooLong byte_limit)) (recorded (symbols_from limit s 0))

-- the answer and the list afterwards: the records in front and the rest untouched, or all zeroed on a fault
abbrev pub stored : List SymbolRecord → Result (List SymbolRecord) Fault → Result ℕ Fault × List SymbolRecord
stored before (Ok rs) = (Ok (length rs), rs ++ drop (length rs) before)
stored before (Err e) = (Err e, replicate (length before) zero_record)

-- the answer for a source and a lent list, and the list afterwards
abbrev pub scanning : List ℕ → List SymbolRecord → Result ℕ Fault × List SymbolRecord
scanning s before =
    cond (nat_lt (length before) symbol_limit) (Err (fault ListTooShort 0), before)
    (cond (nat_lt byte_limit (length s)) (stored before (Err (fault SourceTooLong byte_limit)))
    (stored before (recorded (symbols_of s))))
