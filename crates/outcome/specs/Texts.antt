-- What a refusal says to people.
use Rattle.std.specs.Prelude.{List, ℕ, ◌++◌, codes}
use Rattle.std.specs.Fmt.{decimal}
use Rattle.outcome.specs.declared.Refusal.{Refusal}
use Rattle.outcome.specs.declared.Refusal.TheVariants.{NoSuchRegistry, AreaTooLong, AreaTooFar, NoTape, NoRoom, PastCount, CutsContainer, Unreadable, NameTooLong}

-- its words, and how many records are needed where that is why
abbrev pub text_of : Refusal → List ℕ
text_of NoSuchRegistry = codes "no registry has this number"
text_of AreaTooLong = codes "the area is over 65,535 octets"
text_of AreaTooFar = codes "the area ends past 4,294,967,295"
text_of NoTape = codes "the tape has no header in order"
text_of (NoRoom needed) = codes "there is no room for " ++ (decimal needed ++ codes " records")
text_of PastCount = codes "the position is past the count of records"
text_of CutsContainer = codes "the mark cuts a container"
text_of Unreadable = codes "the record is not one that is known"
text_of NameTooLong = codes "the name is longer than the room lent for it"
