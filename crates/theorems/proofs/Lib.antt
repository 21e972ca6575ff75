-- The theorems, in the order in which they lean on one another.
-- ---- tests, the limits, sums
pub mod Booleans
pub mod Limits
pub mod Checked
pub mod Sums
-- ---- the running centres
pub mod RunningCenters
pub mod RunningWords
-- ---- the children of a level
pub mod Counts
pub mod Zigzags
pub mod Generators
pub mod Passing
pub mod Children
-- ---- the walk, with a budget and without
pub mod Levels
pub mod Unbudgeted
pub mod Budget
-- ---- opened prefixes and admitted vectors
pub mod Paths
pub mod Prefixes
pub mod WiderRadius
-- ---- nearest
pub mod Covered
pub mod Search
pub mod Least
pub mod Radius
pub mod Standing
pub mod RunningWalks
pub mod RunningNearest
pub mod Seeded
-- ---- list
pub mod Listing
pub mod Orders
pub mod Sorting
pub mod Others
pub mod FirstListed
pub mod RunningLists
-- ---- the checks
pub mod FirstFaults
pub mod FirstRefusal
pub mod CheckNumbers
pub mod CallNumbers
pub mod MinusZero
pub mod Accepted
pub mod Matrices
pub mod PreparedChecks
pub mod Entries
-- ---- the calls
pub mod Endings
pub mod EndsAsWalk
pub mod RefusedCalls
pub mod SearchCalls
pub mod CandidateCalls
pub mod ListCall
pub mod Promises
pub mod RunningCalls
pub mod Prepared
pub mod Ratios
pub mod Settings
pub mod RatioCalls
pub mod References
-- ---- searches that are put down and picked up
pub mod Resumed
pub mod PickedUp
pub mod KeptWalks
pub mod Written
pub mod KeptParts
pub mod SoundParts
pub mod KeptBlocks
pub mod KeptSearches
pub mod KeptChecks
pub mod NamedCalls
pub mod PickUpCalls
pub mod KeptDecides
pub mod KeptLists
pub mod KeptPromises
-- ---- turns
pub mod Rounds
pub mod TurnChecks
pub mod TurnCalls
pub mod FairTurns
pub mod TurnOutputs
pub mod TurnRows
pub mod TurnPromises
-- ---- entries that are not read
pub mod SameDistances
pub mod SameWalks
pub mod SameRunning
pub mod SamePlanes
pub mod SameChecks
pub mod SameCalls
-- ---- a job's bytes
pub mod Doubles
pub mod EncodedSections
pub mod EncodedRows
pub mod EncodedJobs
pub mod JobDoubles
pub mod JobCalls
pub mod JobTexts
