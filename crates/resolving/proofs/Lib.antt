-- Laws of resolving. Assumes nothing.
pub mod TableReads
pub mod FirstAt
pub mod Resolving
pub mod RefLaws
pub mod JoinResolving
pub mod PartyLaws
pub mod TakenLaws
pub mod OpennessLaws
pub mod Through
pub mod ClosedRefs
pub mod RefKinds
