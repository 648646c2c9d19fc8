-- Laws on a pattern in memory.
pub mod MemberLaws
