-- What is promised of the definitions: the three demands and what they lean on, each a named statement with its proof under it.

pub mod Answers
pub mod Questions
pub mod Memory
pub mod Solutions
pub mod SharedObjects
pub mod Store
pub mod Comparisons
pub mod Files
pub mod Screen
pub mod Planner
pub mod MetVariables
pub mod Limits
pub mod Kept
pub mod Cases
