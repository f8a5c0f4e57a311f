-- What holds of the definitions and of the calls.

-- demand 3: one entry cannot speak for another
pub mod Form
pub mod FormLaws
pub mod Entries
pub mod Nearby
pub mod NearbyLaws
pub mod OneEntry
pub mod TwoAreas
-- what is asked of a reading
pub mod Plan
pub mod PlanLaws
-- what holds of each record of a list, and of forests one after the other
pub mod EachRecord
pub mod Closed
-- every record is one that can be read, and the records nest
pub mod Sound
pub mod SoundLaws
pub mod SoundWalk
pub mod NestKept
pub mod ReadBack
-- every record lies inside its container
pub mod Inside
-- needed records: any base, the bound, and that it is attained
pub mod Size
pub mod Bound
pub mod Attained
-- a walk decodes an entry, and an entry walks again
pub mod Unroll
-- old records change nothing
pub mod OldRecords
pub mod OldRecordsLaws
-- a call in either layout
pub mod Layouts
pub mod LayoutsLaws
-- every call answers by the lines of the table
pub mod Answers
-- the calls, by the table's reading
pub mod TheCalls
