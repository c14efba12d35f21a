-- The day file: its contents, its records, and why it is not loaded. Bytes are numbers below 256.
use Rattle.std.specs.Prelude.{ℕ, ◌+◌, ◌*◌, ◌/◌, ◌%◌, Bool, cond, not, ◌&&◌, ◌||◌, List, [], ◌∷◌, ◌++◌, map, length, Some, None, codes, Option, ◌==◌, nat_le, slice_index}
use Rattle.std.specs.List.{between}
use Rattle.sharing.specs.declared.refusal.Refusal.{Refusal}
use Rattle.sharing.specs.Lists.{made}
use Rattle.ledger.specs.declared.listing.Listing.{Listing}
use Rattle.ledger.specs.declared.deal.Deal.{Deal}
use Rattle.ledger.specs.declared.repricing.Repricing.{Repricing}
use Rattle.ledger.specs.declared.section.Section.{Section}
use Rattle.ledger.specs.declared.section.Section.TheVariants.{Series, Deals, Marks}
use Rattle.ledger.specs.declared.fault.LoadFault.{LoadFault}
use Rattle.ledger.specs.declared.fault.LoadFault.TheVariants.{WrongStage, FileLength, BrokenEntry, OutsideLimits, Refused}
use Rattle.ledger.specs.Limits.{outside, most_members, least_file, most_file}
use Rattle.ledger.specs.Checks.{first_found, or_else}
use Rattle.ledger.specs.Ledger.{Ledger, struck}
use Rattle.ledger.specs.Bookings.{Booking, lists, deals, reprices, wrong_listing, wrong_deal, wrong_repricing, booking_checks, booked}

-- Numbers of two and of four bytes that begin at place i, least byte first.
abbrev pub half : List ℕ → ℕ → ℕ
half bytes i = slice_index bytes i + slice_index bytes (i + 1) * 256

abbrev pub word : List ℕ → ℕ → ℕ
word bytes i = slice_index bytes i + slice_index bytes (i + 1) * 256 + slice_index bytes (i + 2) * 65536 + slice_index bytes (i + 3) * 16777216

-- Contents: three entries of twelve bytes, each a tag, an offset and a length of four bytes.
abbrev pub series_tag : List ℕ
series_tag = codes "SERS"

abbrev pub deals_tag : List ℕ
deals_tag = codes "DEAL"

abbrev pub marks_tag : List ℕ
marks_tag = codes "MARK"

abbrev pub has_tag : List ℕ → ℕ → List ℕ → Bool
has_tag file i tag =
    (slice_index file i == slice_index tag 0)
    && (slice_index file (i + 1) == slice_index tag 1 && (slice_index file (i + 2) == slice_index tag 2 && slice_index file (i + 3) == slice_index tag 3))

-- The first section begins behind the contents, at 36, and each other where the one before it ends.
abbrev pub deals_start : List ℕ → ℕ
deals_start file = 36 + word file 8

abbrev pub marks_start : List ℕ → ℕ
marks_start file = deals_start file + word file 20

abbrev pub marks_end : List ℕ → ℕ
marks_end file = marks_start file + word file 32

-- the bytes of a record in each section
abbrev pub series_size : ℕ
series_size = 16

abbrev pub deal_size : ℕ
deal_size = 16

abbrev pub mark_size : ℕ
mark_size = 12

-- an entry at place i is good if it has its tag, its section begins where it has to and does not end past the file's end,
-- and its length is a multiple of the record size
abbrev pub good_entry : List ℕ → ℕ → List ℕ → ℕ → ℕ → Bool
good_entry file i tag start size =
    has_tag file i tag
    && (word file (i + 4) == start && (nat_le (start + word file (i + 8)) (length file) && word file (i + 8) % size == 0))

-- the checks of the contents, in their order; the last section has to end exactly at the file's end
abbrev pub contents_checks : List ℕ → List (Bool × LoadFault)
contents_checks file =
    (outside least_file most_file (length file), FileLength)
    ∷ (not (good_entry file 0 series_tag 36 series_size), BrokenEntry Series)
    ∷ (not (good_entry file 12 deals_tag (deals_start file) deal_size), BrokenEntry Deals)
    ∷ (not (good_entry file 24 marks_tag (marks_start file) mark_size && marks_end file == length file), BrokenEntry Marks)
    ∷ []

-- Records by their fields.
abbrev pub listing_read : List ℕ → Listing
listing_read b = record { code = word b 0; market = half b 4; size = half b 6; price = word b 8; risk = word b 12 }

abbrev pub deal_read : List ℕ → Deal
deal_read b = record { code = word b 0; seat = half b 4; side = half b 6; lots = word b 8; price = word b 12 }

abbrev pub repricing_read : List ℕ → Repricing
repricing_read b = record { code = word b 0; price = word b 4; risk = word b 8 }

-- the records of a section, one after another
abbrev pub records : {X : Type 0} → ℕ → (List ℕ → X) → List ℕ → List X
records size read section = made (length section / size) (λ i. read (between (size * i) (size * i + size) section))

-- a record with its section and its number there, from 1
pub record Placed : Type 0 where
  pub section : Section
  pub place : ℕ
  pub booking : Booking

abbrev pub placed : Section → ℕ → List Booking → List Placed
placed s n [] = []
placed s n (b ∷ bs) = record { section = s; place = n; booking = b } ∷ placed s (n + 1) bs

-- all records in file order
unfoldable pub records_of : List ℕ → List Placed
records_of file =
    placed Series 1 (map lists (records series_size listing_read (between 36 (deals_start file) file)))
    ++ (placed Deals 1 (map deals (records deal_size deal_read (between (deals_start file) (marks_start file) file)))
    ++ placed Marks 1 (map reprices (records mark_size repricing_read (between (marks_start file) (marks_end file) file))))

-- a record with a field outside its limits; here the seat counts too, from 1 to 8
abbrev pub wrong_record : Booking → Bool
wrong_record (lists s) = wrong_listing s
wrong_record (deals d) = wrong_deal d || outside 1 most_members d.seat
wrong_record (reprices r) = wrong_repricing r

-- the faults of all such records
abbrev pub wrong_records : List Placed → List LoadFault
wrong_records [] = []
wrong_records (r ∷ rs) = cond (wrong_record r.booking) (OutsideLimits r.section r.place ∷ wrong_records rs) (wrong_records rs)

-- the fault of the first record that the book refuses, each looked at as the records before it leave the book
abbrev pub refusal_at : Placed → Option Refusal → Option LoadFault
refusal_at r None = None
refusal_at r (Some c) = Some (Refused r.section r.place c)

abbrev pub refused_record : Ledger → List Placed → Option LoadFault
refused_record l [] = None
refused_record l (r ∷ rs) = or_else (refusal_at r (first_found (booking_checks l r.booking))) (refused_record (booked l r.booking) rs)

-- The faults that a load may name: none where it is accepted; one where the book is struck, the contents are broken or
-- the book refuses a record; and one for each record with a field outside its limits, of which any is named.
abbrev pub faults_by : Option LoadFault → List LoadFault → Option LoadFault → List LoadFault
faults_by (Some f) wrong refused = f ∷ []
faults_by None (f ∷ fs) refused = f ∷ fs
faults_by None [] (Some f) = f ∷ []
faults_by None [] None = []

abbrev pub load_faults : Ledger → List ℕ → List LoadFault
load_faults l file =
    faults_by (first_found ((struck l, WrongStage) ∷ contents_checks file)) (wrong_records (records_of file)) (refused_record l (records_of file))
