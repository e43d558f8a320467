pub mod Put
pub mod WasRead
pub mod PutCrew
pub mod CrewCases
pub mod Found
pub mod CrewCall
