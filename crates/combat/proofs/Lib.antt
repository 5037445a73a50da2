pub mod AttackCases
