-- What a line says: a call, or the first fault that it has.
use Rattle.std.specs.Prelude.{ℕ, cond, List, [], ◌∷◌, length, Ok, Err, Result, ◌==◌, nat_le, slice_index}
use Rattle.std.specs.Option.{ok_or}
use Rattle.history.specs.declared.calls.Call.{Call}
use Rattle.history.specs.declared.calls.Call.TheVariants.{List as Listing, Post as Posting, Collar as Collaring, Clock as Clocking, Halt as Halting, Lift as Lifting, Ask as Asking, Enter as Entering, Withdraw as Withdrawing}
use Rattle.reply.specs.declared.LineFault.{LineFault}
use Rattle.reply.specs.declared.LineFault.TheVariants.{LineTooLong, NotACommand, WrongNumberOfFields, BadField}
use Rattle.line.specs.declared.words.Word.{Word}
use Rattle.line.specs.declared.words.Word.TheVariants.{List as ToList, Post, Collar, Clock, Halt, Lift, Ask, Enter, Withdraw}
use Rattle.line.specs.Fields.{Placed, fields}
use Rattle.line.specs.Firsts.{others}
use Rattle.line.specs.Numbers.{number_in}
use Rattle.line.specs.Words.{word_in, fields_of}

abbrev pub then : {X Y : Type 0} → Result X LineFault → (X → Result Y LineFault) → Result Y LineFault
then (Ok x) next = next x
then (Err fault) next = Err fault

abbrev pub word_first : List Placed → Result Word LineFault
word_first [] = Err NotACommand
word_first (field ∷ more) = ok_or (word_in field.0) NotACommand

abbrev pub number_first : List Placed → Result ℕ LineFault
number_first [] = Err WrongNumberOfFields
number_first (field ∷ more) = ok_or (number_in field.0) (BadField field.1)

-- a letter is one byte, whichever it is
abbrev pub letter_first : List Placed → Result ℕ LineFault
letter_first [] = Err WrongNumberOfFields
letter_first (field ∷ more) = cond (length field.0 == 1) (Ok (slice_index field.0 0)) (Err (BadField field.1))

-- the next field is a number, and then comes the rest
abbrev pub number : List Placed → (ℕ → List Placed → Result Call LineFault) → Result Call LineFault
number fs next = then (number_first fs) (λ n. next n (others fs))

abbrev pub letter : List Placed → (ℕ → List Placed → Result Call LineFault) → Result Call LineFault
letter fs next = then (letter_first fs) (λ l. next l (others fs))

-- what a word calls for with the fields after it
abbrev pub call : Word → List Placed → Result Call LineFault
call ToList fs = number fs (λ product _. Ok (Listing product))
call Post fs =
    number fs (λ contract fs.
    letter fs (λ name fs.
    number fs (λ value _. Ok (Posting contract name value))))
call Collar fs =
    number fs (λ contract fs.
    number fs (λ low fs.
    number fs (λ high _. Ok (Collaring contract low high))))
call Clock fs = number fs (λ minute _. Ok (Clocking minute))
call Halt fs = number fs (λ contract _. Ok (Halting contract))
call Lift fs = number fs (λ contract _. Ok (Lifting contract))
call Ask fs =
    number fs (λ contract fs.
    number fs (λ numerator fs.
    number fs (λ divisor _. Ok (Asking contract numerator divisor))))
call (Enter side) fs =
    number fs (λ contract fs.
    number fs (λ price fs.
    number fs (λ quantity fs.
    number fs (λ participant fs.
    number fs (λ counterparty _.
    Ok (Entering (record { side = side; contract = contract; price = price; quantity = quantity; participant = participant; counterparty = counterparty })))))))
call Withdraw fs =
    number fs (λ order fs.
    number fs (λ participant _. Ok (Withdrawing order participant)))

-- at most 80 bytes; then a word; then as many fields as it has; then each field in turn
abbrev pub said : List ℕ → Result Call LineFault
said line =
    cond (nat_le (length line) 80)
    (then (word_first (fields line)) (λ word.
    cond (length (fields line) == fields_of word) (call word (others (fields line))) (Err WrongNumberOfFields)))
    (Err LineTooLong)
