pub mod WorkedReport
pub mod WorkedRuns
pub mod WorkedScript
pub mod WorkedUsage
pub mod WorkedDamaged
pub mod WorkedWork
