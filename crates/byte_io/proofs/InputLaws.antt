-- A source whose bytes are known, and which is read in steps.
use Rattle.std.proofs.Common.{◌≡◌, ℕ, ◌+◌, ◌≤◌, List, ◌++◌, length, take, Option, ap, ◌∙◌, append_assoc, arith}
use Rattle.std.proofs.KnownBytes.{Consumes-trans}
use Rattle.std.proofs.lemmas.List.{length-append, take-take, take-append-le, take_all}
use Rattle.std.proofs.Math.Seq.{take-append-add, take-append_seam}
use Rattle.std.specs.Prelude.{Bool}
use Rattle.std.specs.Io.KnownBytes.{Consumes}
use Rattle.byte_io.specs.Input.{IsNotRead}
use Rattle.byte_io.specs.declared.input.ReadFault.{ReadFault}
use Rattle.byte_io.specs.declared.input.ReadFault.TheVariants as reads

-- if what is left is not read to its end, the source is not read to its end
pub not_read : (old between new : Option (List ℕ)) (broken : Bool) (bytes : List ℕ) (room limit : ℕ) (fault : ReadFault) → Consumes old between bytes → limit ≡ length bytes + room
    → IsNotRead between new broken room fault → IsNotRead old new broken limit fault
not_read old between new broken bytes room limit reads.Read before whole is = is
not_read old between new broken bytes room limit reads.TooLong before whole (more, long, last) =
    (bytes ++ more, omega (arith, whole, long, length-append bytes more), Consumes-trans old between new bytes more before last)
not_read old between new broken bytes room limit reads.Memory before whole is = absurd is

-- a buffer that was made longer begins with the bytes that it had
pub made_longer : (old zeros : List ℕ) (at size : ℕ) → at ≡ length old → at ≤ size → take at (take size old ++ zeros) ≡ old
made_longer old zeros at size whole long =
    let all : take size old ≡ old = take_all size old (omega (arith, whole, long)) in
    rw (all, whole) (take-append_seam old zeros)

-- a buffer whose room was filled has the bytes that it had, and behind them the piece
filled : (old text piece post more : List ℕ) (at : ℕ) → take at text ≡ old → (take at text ++ (piece ++ post)) ++ more ≡ old ++ (piece ++ (post ++ more))
filled old text piece post more at front =
    rw front (append_assoc old (piece ++ post) more ∙ ap (λ (s : List ℕ). old ++ s) (append_assoc piece post more))

-- its first bytes are those that it had, and the first of the piece
pub filled_front : (old text piece post more : List ℕ) (at n size : ℕ) → at ≡ length old → take at text ≡ old → n ≤ length piece → at + n ≤ size
    → take (at + n) (take size ((take at text ++ (piece ++ post)) ++ more)) ≡ old ++ take n piece
filled_front old text piece post more at n size behind front few fits =
    take-take (at + n) size ((take at text ++ (piece ++ post)) ++ more) fits ∙ ap (take (at + n)) (filled old text piece post more at front) ∙ rw behind (take-append-add old (piece ++ (post ++ more)) n)
    ∙ ap (λ (s : List ℕ). old ++ s) (take-append-le n piece (post ++ more) few)

-- up to the end of the piece it has those that it had, and the piece
pub filled_room : (old text piece post more : List ℕ) (at size : ℕ) → at ≡ length old → take at text ≡ old → size ≡ at + length piece
    → take size ((take at text ++ (piece ++ post)) ++ more) ≡ old ++ piece
filled_room old text piece post more at size behind front whole =
    ap (take size) (filled old text piece post more at front) ∙ rw (whole, behind) (take-append-add old (piece ++ (post ++ more)) (length piece))
    ∙ ap (λ (s : List ℕ). old ++ s) (take-append_seam piece (post ++ more))
