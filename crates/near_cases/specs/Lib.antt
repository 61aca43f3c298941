pub mod NearCases
