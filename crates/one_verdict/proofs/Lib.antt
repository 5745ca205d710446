-- A folder has one verdict: what its rules speak of is determined as far as a rule can tell, from the parts of a class file up to the
-- whole folder in a told tree.
pub mod RisingLists
pub mod OneDecoding
pub mod PlacesOfInstrs
pub mod OneMember
pub mod OneAttribute
pub mod OneRecord
pub mod OneLinks
pub mod OneOrder
pub mod OneFolder
pub mod SamePlacedFaults
pub mod OneFirstBroken
pub mod OneVerdict
pub mod OneLoading
pub mod OneToldFolder
